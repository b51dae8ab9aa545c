use Rattle.ppm_gaps.proofs.racing.check_racing.Goals as goal

-- there is a gap, and no conflict
pub returns-in-Some : goal.returns-in-Some
returns-in-Some c = (c.in-Some.ensures, λ number less. c.in-Ok.ensures.1 number)

-- there is neither
pub returns-in-None : goal.returns-in-None
returns-in-None c = c.codes_without_flaws_are_restartable.ensures c.args.code.now c.in-Ok.ensures.1 c.in-None.ensures

-- or there is a conflict
pub returns-in-Err : goal.returns-in-Err
returns-in-Err c = c.flaw_beside.ensures

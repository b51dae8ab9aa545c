use Rattle.ppm_step.proofs.local.Local.begin.Goals as goal

-- the header of the frame is there, or is not
pub returns-in-Run-clause-holds : goal.returns-in-Run-clause-holds
returns-in-Run-clause-holds c = c.stand_at_header.ensures.holds c.args.code.now

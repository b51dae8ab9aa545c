use Rattle.std.proofs.Common.{arith}
use Rattle.ppm_gaps.proofs.racing.flaw_beside.Goals as goal

-- the gap is of an earlier capsule
pub returns-then-gap-conflict : goal.returns-then-gap-conflict
returns-then-gap-conflict c =
    (c.in-Some.ensures, λ number less. c.requires.earlier number (omega (arith, less, c.if-gap-conflict.true)))

-- or of a later one, or of that of the conflict
pub returns-else-gap-conflict : goal.returns-else-gap-conflict
returns-else-gap-conflict c =
    (c.requires, λ number less. c.in-Some.ensures.earlier number (omega (arith, less, c.if-gap-conflict.false)))

-- or there is none
pub returns-in-None : goal.returns-in-None
returns-in-None c = (c.requires, λ number less. c.in-None.ensures number)

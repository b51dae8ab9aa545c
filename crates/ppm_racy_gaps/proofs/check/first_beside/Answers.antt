use Rattle.std.proofs.Common.{arith}
use Rattle.ppm_racy_gaps.proofs.FirstLemmas.{gap_before, repeat_not_after}
use Rattle.ppm_racy_gaps.proofs.check.first_beside.Goals as goal

-- the gap is in an earlier capsule
pub returns-then-gap-repeat : goal.returns-then-gap-repeat
returns-then-gap-repeat c =
    gap_before c.args.code.now c.args.gap c.args.repeat c.requires.with_puts c.requires.after (omega (arith, c.if-gap-repeat.true))

-- or not
pub returns-else-gap-repeat : goal.returns-else-gap-repeat
returns-else-gap-repeat c =
    repeat_not_after c.args.code.now c.args.gap c.args.repeat c.requires.with_puts c.requires.after (omega (arith, c.if-gap-repeat.false))

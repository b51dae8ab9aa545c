use Rattle.std.proofs.Common.{arith}
use Rattle.ppm_racy_gaps.proofs.FirstLemmas.{repeat_before, conflict_before, repeat_in_it, conflict_in_it}
use Rattle.ppm_racy_gaps.proofs.check.first_conflict.Goals as goal

-- the exchange is in an earlier capsule
pub returns-then-repeat-conflict : goal.returns-then-repeat-conflict
returns-then-repeat-conflict c = repeat_before c.args.code.now c.args.conflict c.args.repeat c.requires.with_puts c.requires.after
    (omega (arith, c.if-repeat-conflict.true))

-- or in a later one
pub returns-then-conflict-repeat : goal.returns-then-conflict-repeat
returns-then-conflict-repeat c = conflict_before c.args.code.now c.args.conflict c.args.repeat c.requires.with_puts c.requires.after
    (omega (arith, c.if-conflict-repeat.true))

-- or in that of the conflict, before its read
pub returns-then-repeat-conflict-2 : goal.returns-then-repeat-conflict-2
returns-then-repeat-conflict-2 c = repeat_in_it c.args.code.now c.args.conflict c.args.repeat c.requires.with_puts c.requires.after
    (omega (arith, c.if-repeat-conflict.false, c.if-conflict-repeat.false)) (omega (arith, c.if-repeat-conflict-2.true))

-- or not before
pub returns-else-repeat-conflict-2 : goal.returns-else-repeat-conflict-2
returns-else-repeat-conflict-2 c = conflict_in_it c.args.code.now c.args.conflict c.args.repeat c.requires.with_puts c.requires.after
    (omega (arith, c.if-repeat-conflict.false, c.if-conflict-repeat.false)) (omega (arith, c.if-repeat-conflict-2.false))

use Rattle.std.proofs.Common.{◌≡◌, ◌++◌, length}
use Rattle.ppm_expected.specs.Language.{items_of, to_come}
use Rattle.ppm_expected.proofs.stack.push_items.Given as goal

-- what is left comes before what is on the stack
abbrev pub invariant-items : goal.invariant-items
invariant-items l = items_of l.left ++ to_come l.stack.items ≡ items_of l.initial.left ++ to_come l.initial.stack.items

abbrev pub decreases-items : goal.decreases-items
decreases-items l = length l.left

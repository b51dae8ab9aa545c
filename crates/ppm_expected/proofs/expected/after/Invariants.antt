use Rattle.std.proofs.Common.{length}
use Rattle.ppm_expected.specs.Language.{to_come}
use Rattle.ppm_expected.specs.Steps.{ReadsTo}
use Rattle.ppm_expected.proofs.expected.after.Given as goal

-- the tokens before those that are left can come
abbrev pub invariant-tokens : goal.invariant-tokens
invariant-tokens l = ReadsTo l.initial.left (to_come l.stack.items) l.left

abbrev pub decreases-tokens : goal.decreases-tokens
decreases-tokens l = length l.left

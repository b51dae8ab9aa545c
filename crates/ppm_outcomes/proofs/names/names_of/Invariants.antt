use Rattle.std.proofs.Common.{◌≡◌, ◌++◌, ◌≤◌, length}
use Rattle.ppm_words.specs.Inputs.{value_count}
use Rattle.ppm_words.specs.Limits.{word_limit}
use Rattle.ppm_outcomes.specs.Stops.{names_of}
use Rattle.ppm_outcomes.proofs.names.names_of.Given as goal

-- the arrays so far, and those that are left
abbrev pub invariant-loop-left : goal.invariant-loop-left
invariant-loop-left l =
    (l.named.items ++ names_of l.left ≡ names_of l.arrays)
    × (value_count l.left ≤ word_limit)

abbrev pub decreases-loop-left : goal.decreases-loop-left
decreases-loop-left l = length l.left

use Rattle.std.proofs.Common.{◌-◌, ◌<◌, ℕ}
use Rattle.ppm_war.specs.Conflicts.{HasNoConflictIn}
use Rattle.ppm_war.proofs.checked.check.Given as goal

-- no capsule so far has a conflict
abbrev pub invariant-loop-number : goal.invariant-loop-number
invariant-loop-number l = (number : ℕ) → number < l.number → HasNoConflictIn l.code number

abbrev pub decreases-loop-number : goal.decreases-loop-number
decreases-loop-number l = l.count - l.number

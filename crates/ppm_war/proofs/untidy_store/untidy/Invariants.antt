use Rattle.std.proofs.Common.{◌-◌, ◌<◌, ℕ}
use Rattle.ppm_war.specs.Stores.{IsTidyIn}
use Rattle.ppm_war.proofs.untidy_store.untidy.Given as goal

-- the capsules so far are tidy
abbrev pub invariant-loop-number : goal.invariant-loop-number
invariant-loop-number l = (number : ℕ) → number < l.number → IsTidyIn l.code number

abbrev pub decreases-loop-number : goal.decreases-loop-number
decreases-loop-number l = l.count - l.number

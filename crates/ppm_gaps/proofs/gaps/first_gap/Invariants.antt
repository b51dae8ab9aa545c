use Rattle.std.proofs.Common.{◌-◌, ◌<◌, ℕ}
use Rattle.ppm_gaps.specs.Gaps.{IsFilledIn}
use Rattle.ppm_gaps.proofs.gaps.first_gap.Given as goal

-- each capsule so far is filled
abbrev pub invariant-loop-number : goal.invariant-loop-number
invariant-loop-number l = (number : ℕ) → number < l.number → IsFilledIn l.code number

abbrev pub decreases-loop-number : goal.decreases-loop-number
decreases-loop-number l = l.count - l.number

use Rattle.std.proofs.Common.{◌-◌, ◌<◌, ℕ}
use Rattle.ppm_racy.specs.Code.{instrs_of}
use Rattle.ppm_racy_gaps.specs.Repeats.{HasNoRepeat}
use Rattle.ppm_racy_gaps.proofs.repeats.first_repeat.Given as goal

-- each capsule so far is without such an exchange
abbrev pub invariant-loop-number : goal.invariant-loop-number
invariant-loop-number l = (number : ℕ) → number < l.number → HasNoRepeat (instrs_of l.code number)

abbrev pub decreases-loop-number : goal.decreases-loop-number
decreases-loop-number l = l.count - l.number

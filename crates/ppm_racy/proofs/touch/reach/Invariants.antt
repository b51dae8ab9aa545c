use Rattle.std.proofs.Common.{length, List, ◌-◌, ◌≡◌}
use Rattle.ppm_filled.specs.Racing.{OwnWord}
use Rattle.ppm_racy.specs.Capsules.{capsule_from}
use Rattle.ppm_racy.proofs.touch.reach.Given as goal

-- the work so far changes nothing of the capsule
abbrev pub invariant-loop-at : goal.invariant-loop-at
invariant-loop-at l = (block : List OwnWord)
    → capsule_from block l.array_words 0 l.at l.instrs l.registers ≡ capsule_from block l.array_words 0 l.fn.from l.instrs l.fn.registers

abbrev pub decreases-loop-at : goal.decreases-loop-at
decreases-loop-at l = length l.instrs - l.at

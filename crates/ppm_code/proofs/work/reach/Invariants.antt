use Rattle.std.proofs.Common.{length, ◌-◌, ◌≡◌, ◌≤◌}
use Rattle.ppm_code.specs.Capsules.{capsule_from}
use Rattle.ppm_code.proofs.work.reach.Given as goal

-- the work so far changes nothing of the capsule
abbrev pub invariant-loop-at : goal.invariant-loop-at
invariant-loop-at l = record {
  left : capsule_from l.array_words 0 l.at l.instrs l.registers ≡ capsule_from l.array_words 0 l.fn.from l.instrs l.fn.registers;
  further : l.fn.from ≤ l.at;
}

abbrev pub decreases-loop-at : goal.decreases-loop-at
decreases-loop-at l = length l.instrs - l.at

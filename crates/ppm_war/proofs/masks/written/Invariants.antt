use Rattle.std.proofs.Common.{length, ◌≡◌, ◌≤◌, ℕ, List}
use Rattle.ppm_code.specs.declared.class.Class.{Class}
use Rattle.ppm_code.specs.declared.instr.Instr.{Instr}
use Rattle.ppm_war.specs.Marks.{IsDecoded}
use Rattle.ppm_war.specs.Masks.{HasAt}
use Rattle.ppm_war.specs.Search.{LeadsToWrite}
use Rattle.ppm_war.proofs.masks.written.Given as goal

-- from this place on each set has the classes to whose writes paths lead
abbrev pub invariant-loop-at : goal.invariant-loop-at
invariant-loop-at l = record {
  within : l.at ≤ length l.mays;
  full : length l.masks ≡ 161;
  found : (is : List Instr) (c : Class) (from write : ℕ) → IsDecoded is l.mays → l.at ≤ from → LeadsToWrite is c from write → HasAt l.masks from c;
}

abbrev pub decreases-loop-at : goal.decreases-loop-at
decreases-loop-at l = l.at

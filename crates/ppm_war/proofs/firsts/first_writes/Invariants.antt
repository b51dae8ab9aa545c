use Rattle.std.proofs.Common.{◌≡◌, ◌≤◌, ℕ, List, None, get_or, length}
use Rattle.ppm_code.specs.declared.instr.Instr.{Instr}
use Rattle.ppm_war.specs.Marks.{IsDecoded}
use Rattle.ppm_war.specs.Search.{IsFirst, LeadsToWrite}
use Rattle.ppm_war.proofs.firsts.first_writes.Given as goal

-- from this place on the first write is found
abbrev pub invariant-loop-at : goal.invariant-loop-at
invariant-loop-at l = record {
  within : l.at ≤ length l.mays;
  full : length l.firsts ≡ 161;
  found : (is : List Instr) (from : ℕ) → IsDecoded is l.mays → l.at ≤ from → IsFirst (LeadsToWrite is l.class from) (get_or l.firsts from None);
}

abbrev pub decreases-loop-at : goal.decreases-loop-at
decreases-loop-at l = l.at

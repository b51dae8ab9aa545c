use Rattle.std.proofs.Common.{length, ◌-◌, List}
use Rattle.ppm_code.specs.declared.instr.Instr.{Instr}
use Rattle.ppm_war.specs.Marks.{IsDecoded}
use Rattle.ppm_war.specs.Search.{IsAnswer, IsReadBelow}
use Rattle.ppm_war.proofs.conflict.first_conflict.Given as goal

-- the first conflict of the classes that were read so far
abbrev pub invariant-loop-place : goal.invariant-loop-place
invariant-loop-place l = (is : List Instr) → IsDecoded is l.mays → IsAnswer (IsReadBelow is l.place) is l.found

abbrev pub decreases-loop-place : goal.decreases-loop-place
decreases-loop-place l = length l.mays - l.place

use Rattle.std.proofs.Common.{length, ◌-◌, ◌<◌, ℕ, List}
use Rattle.ppm_code.specs.Paths.{IsConflict}
use Rattle.ppm_code.specs.declared.class.Class.{Class}
use Rattle.ppm_code.specs.declared.instr.Instr.{Instr}
use Rattle.ppm_war.specs.Marks.{IsDecoded}
use Rattle.ppm_war.proofs.masks.is_free.Given as goal

-- no read so far is in conflict
abbrev pub invariant-loop-at : goal.invariant-loop-at
invariant-loop-at l = (is : List Instr) (read write : ℕ) (c : Class) → IsDecoded is l.mays → read < l.at → IsConflict is read write c → ⊥

abbrev pub decreases-loop-at : goal.decreases-loop-at
decreases-loop-at l = length l.mays - l.at

use Rattle.std.proofs.Common.{length, ◌-◌, ◌<◌, ℕ, List}
use Rattle.ppm_code.specs.Paths.{IsConflict}
use Rattle.ppm_code.specs.declared.instr.Instr.{Instr}
use Rattle.ppm_war.specs.Marks.{IsDecoded}
use Rattle.ppm_war.proofs.conflict.conflict_of.Given as goal

-- no read of the class so far is in conflict with a write
abbrev pub invariant-loop-read_at : goal.invariant-loop-read_at
invariant-loop-read_at l = (is : List Instr) → IsDecoded is l.mays → (read write : ℕ) → read < l.read_at → IsConflict is read write l.class → ⊥

abbrev pub decreases-loop-read_at : goal.decreases-loop-read_at
decreases-loop-read_at l = length l.mays - l.read_at

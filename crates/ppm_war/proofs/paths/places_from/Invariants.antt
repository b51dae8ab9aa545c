use Rattle.std.proofs.Common.{length, ◌-◌, ◌↔◌, ◌<◌, ℕ, List}
use Rattle.ppm_code.specs.Limits.{instr_limit}
use Rattle.ppm_code.specs.declared.instr.Instr.{Instr}
use Rattle.ppm_war.specs.Marks.{Allows, IsDecoded, IsMarked}
use Rattle.ppm_war.proofs.MarkLemmas.{IsMet}
use Rattle.ppm_war.proofs.paths.places_from.Given as goal

-- a place is marked where a path comes to it from an instruction that was met
abbrev pub invariant-loop-at : goal.invariant-loop-at
invariant-loop-at l = (is : List Instr) (to : ℕ) → IsDecoded is l.mays → to < instr_limit → IsMarked l.marks to ↔ IsMet is (Allows l.class) l.from l.at to

abbrev pub decreases-loop-at : goal.decreases-loop-at
decreases-loop-at l = length l.mays - l.at

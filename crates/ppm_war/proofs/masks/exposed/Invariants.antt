use Rattle.std.proofs.Common.{length, ◌-◌, ◌<◌, ℕ, List}
use Rattle.ppm_code.specs.Paths.{Exposes}
use Rattle.ppm_code.specs.declared.class.Class.{Class}
use Rattle.ppm_code.specs.declared.instr.Instr.{Instr}
use Rattle.ppm_war.specs.Marks.{IsDecoded}
use Rattle.ppm_war.specs.Masks.{HasAt}
use Rattle.ppm_war.proofs.MarkLemmas.{IsMet}
use Rattle.ppm_war.proofs.masks.exposed.Given as goal

-- each place to which paths have come has the classes that they expose
abbrev pub invariant-loop-at : goal.invariant-loop-at
invariant-loop-at l = (is : List Instr) (c : Class) (to : ℕ) → IsDecoded is l.mays → to < 161 → IsMet is (Exposes c) 0 l.at to → HasAt l.masks to c

abbrev pub decreases-loop-at : goal.decreases-loop-at
decreases-loop-at l = length l.mays - l.at

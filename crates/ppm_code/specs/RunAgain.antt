-- Capsules of code that may be run again.
use Rattle.std.specs.Prelude.{ℕ, List}
use Rattle.ppm_strands.specs.Capsule.{Memory}
use Rattle.ppm_strands.specs.Paths.{IsFreeOnPaths}
use Rattle.ppm_strands.specs.Stopped.{IsConflictFree, IsIdempotent}
use Rattle.ppm_code.specs.declared.instr.Instr.{Instr}
use Rattle.ppm_code.specs.Locations.{Where, code_locations}
use Rattle.ppm_code.specs.Capsules.{capsule_from, capsule_of}
use Rattle.ppm_code.specs.Paths.{HasNoConflict}

-- instructions without a conflict on their paths make a capsule without one, whatever the registers hold at its first instruction
abbrev pub PathsDecide : Type 0
PathsDecide = (array_words : ℕ) (is : List Instr) (g : List ℕ) → HasNoConflict is → IsFreeOnPaths code_locations (capsule_from array_words 0 0 is g)

-- a capsule without conflicts from these words, which stopped anywhere and begun again comes to the same end with the same words
pub record MayRunAgain (array_words : ℕ) (is : List Instr) (m : Memory Where) : Type 0 where
  pub free : IsConflictFree code_locations (capsule_of array_words is) m
  pub idempotent : IsIdempotent code_locations (capsule_of array_words is) m

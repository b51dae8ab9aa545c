-- What the capsules of a tidy code leave blank in a new block.
use Rattle.std.specs.Prelude.{◌<◌, ℕ, length}
use Rattle.ppm_strands.specs.Capsule.{Memory, In, written, ending}
use Rattle.ppm_strands.specs.Strand.{New}
use Rattle.ppm_code.specs.Code.{IsCode}
use Rattle.ppm_code.specs.Capsules.{capsule_of}
use Rattle.ppm_code.specs.Locations.{Where, code_locations}
use Rattle.ppm_code.specs.Strands.{instrs_of}
use Rattle.ppm_code.specs.Tidy.{IsTidy, Builds}
use Rattle.ppm_code.specs.declared.code.CodeParts.{CodeParts}

-- a word that a capsule writes into its block is a slot of a frame that its end builds: so links,
-- outcomes, headers, values and targets stay blank
abbrev pub WritesAreSlots : Type 0
WritesAreSlots = (code : CodeParts) (array_words number o : ℕ) (m : Memory Where) → IsCode code
    → IsTidy code → number < length code.capsules
    → In (New o) (written code_locations (capsule_of array_words (instrs_of code number)) m)
    → Builds code (ending code_locations (capsule_of array_words (instrs_of code number)) m) o

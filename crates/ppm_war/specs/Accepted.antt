-- What holds of a code that has no conflict.
use Rattle.std.specs.Prelude.{ℕ}
use Rattle.ppm_strands.specs.Capsule.{Memory}
use Rattle.ppm_strands.specs.Strand.{MayBeginAgain}
use Rattle.ppm_code.specs.declared.code.CodeParts.{CodeParts}
use Rattle.ppm_code.specs.Locations.{Where, code_locations}
use Rattle.ppm_code.specs.RunAgain.{MayRunAgain}
use Rattle.ppm_code.specs.Strands.{Point, table_of, instrs_of}

-- each of its capsules is idempotent from any words, and may be begun again as one of the table
pub record RunsAgain (code : CodeParts) : Type 0 where
  pub capsules : (number array_words : ℕ) (m : Memory Where) → MayRunAgain array_words (instrs_of code number) m
  pub table : (array_words : ℕ) (point : Point) (m : Memory Where) → MayBeginAgain code_locations (table_of code array_words) point m

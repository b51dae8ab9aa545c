-- Codes whose paths are ordered and filled have capsules that are.
use Rattle.std.specs.Prelude.{ℕ}
use Rattle.ppm_strands.specs.Tree.{Words}
use Rattle.ppm_unseen.specs.Conditions.{IsOrdered, IsFilled, Stands}
use Rattle.ppm_unseen.specs.Correct.{FaultsAreInvisible}
use Rattle.ppm_code.specs.declared.code.CodeParts.{CodeParts}
use Rattle.ppm_code.specs.Paths.{HasNoConflict}
use Rattle.ppm_code.specs.Strands.{instrs_of}
use Rattle.ppm_code.specs.declared.location.FrameWord.{FrameWord}
use Rattle.ppm_filled.specs.Racing.{Place, racing_code, racing_system}
use Rattle.ppm_filled.specs.Filled.{IsFilledOnPaths}

-- each capsule of a code has no conflict and is filled on its paths
pub record HasFilledPaths (code : CodeParts) : Type 0 where
  pub free : (number : ℕ) → HasNoConflict (instrs_of code number)
  pub filled : (number : ℕ) → IsFilledOnPaths (instrs_of code number)

-- then each capsule of its strands makes its changes before its reads, and keeps the same own words whatever it reads
abbrev pub FilledPathsAreFilled : Type 0
FilledPathsAreFilled = (code : CodeParts) → HasFilledPaths code → (array_words : ℕ) (place : Place)
    → IsOrdered ((racing_code code array_words).capsule place)
    × IsFilled ((racing_code code array_words).builds place) ((racing_code code array_words).capsule place)

-- and from whatever words they begin: if what they do stands in runs without faults, their faults are invisible
abbrev pub FaultsOfFilledPathsAreInvisible : Type 0
FaultsOfFilledPathsAreInvisible = (code : CodeParts) → HasFilledPaths code → (array_words : ℕ) (root : FrameWord → ℕ) (arrays : Words)
    → Stands (racing_system code array_words root arrays) → FaultsAreInvisible (racing_system code array_words root arrays)

-- What holds of codes with exchanges.
use Rattle.std.specs.Prelude.{◌≡◌, ℕ}
use Rattle.ppm_strands.specs.Tree.{Words}
use Rattle.ppm_unseen.specs.Conditions.{IsOrdered, IsFilled, Stands}
use Rattle.ppm_unseen.specs.Correct.{FaultsAreInvisible}
use Rattle.ppm_code.specs.declared.code.CodeParts.{CodeParts}
use Rattle.ppm_code.specs.declared.location.FrameWord.{FrameWord}
use Rattle.ppm_filled.specs.Correct.{HasFilledPaths}
use Rattle.ppm_filled.specs.Racing.{Place, racing_system}
use Rattle.ppm_racy.specs.declared.code.RacyParts.{RacyParts}
use Rattle.ppm_racy.specs.Code.{as_racy, plain_code}
use Rattle.ppm_racy.specs.Racing.{racy_code, racy_system}

-- a code without exchanges has the strands that `ppm_filled` gives it, whatever words it begins with: they are one system, so what is true of its
-- runs there is true of them here
pub record PlainCodesRaceAsBefore : Type 0 where
  pub plain : (code : CodeParts) → plain_code (as_racy code) ≡ code
  pub systems : (code : CodeParts) (array_words : ℕ) (root : FrameWord → ℕ) (arrays : Words)
      → racy_system (as_racy code) array_words root arrays ≡ racing_system code array_words root arrays

-- where with puts in place of exchanges no path has a conflict and each is filled, each capsule makes its changes before its reads, and keeps the
-- same own words whatever it reads
abbrev pub RacyPathsAreFilled : Type 0
RacyPathsAreFilled = (code : RacyParts) → HasFilledPaths (plain_code code) → (array_words : ℕ) (place : Place)
    → IsOrdered ((racy_code code array_words).capsule place) × IsFilled ((racy_code code array_words).builds place) ((racy_code code array_words).capsule place)

-- faults of a code whose paths are filled are invisible, if what its capsules do stands in each run without faults
abbrev pub FaultsOfRacyPathsAreInvisible : Type 0
FaultsOfRacyPathsAreInvisible = (code : RacyParts) → HasFilledPaths (plain_code code) → (array_words : ℕ) (root : FrameWord → ℕ) (arrays : Words)
    → Stands (racy_system code array_words root arrays) → FaultsAreInvisible (racy_system code array_words root arrays)

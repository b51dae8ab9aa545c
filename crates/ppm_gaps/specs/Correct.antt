-- What the check of capsules that may race is worth.
use Rattle.std.specs.Prelude.{◌≡◌, ℕ}
use Rattle.ppm_strands.specs.Tree.{Words}
use Rattle.ppm_unseen.specs.Conditions.{IsOrdered, IsFilled, Stands}
use Rattle.ppm_unseen.specs.Correct.{FaultsAreInvisible}
use Rattle.ppm_code.specs.Free.{IsFree}
use Rattle.ppm_code.specs.declared.code.CodeParts.{CodeParts}
use Rattle.ppm_code.specs.declared.location.FrameWord.{FrameWord}
use Rattle.ppm_filled.specs.Correct.{HasFilledPaths}
use Rattle.ppm_filled.specs.Racing.{Place, racing_code, racing_system}
use Rattle.ppm_gaps.specs.declared.racing.Flaw.{Flaw}
use Rattle.ppm_gaps.specs.Flaws.{IsFirstFlaw}
use Rattle.ppm_gaps.specs.Gaps.{AreFilledOnPaths}

-- a code without conflicts whose paths are filled: each capsule is ordered and filled, though strands race; and from whatever words strands
-- begin, their faults are invisible where what they do stands in runs without faults
pub record IsRestartable (code : CodeParts) : Type 0 where
  pub paths : HasFilledPaths code
  pub ordered : (array_words : ℕ) (place : Place) → IsOrdered ((racing_code code array_words).capsule place)
  pub filled : (array_words : ℕ) (place : Place)
      → IsFilled ((racing_code code array_words).builds place) ((racing_code code array_words).capsule place)
  pub invisible : (array_words : ℕ) (root : FrameWord → ℕ) (arrays : Words)
      → Stands (racing_system code array_words root arrays) → FaultsAreInvisible (racing_system code array_words root arrays)

-- a code is that where no capsule has a conflict, and none a gap
abbrev pub CodesWithoutFlawsAreRestartable : Type 0
CodesWithoutFlawsAreRestartable = (code : CodeParts) → IsFree code → AreFilledOnPaths code → IsRestartable code

-- a code has one first flaw, or its paths have no conflict and are filled
pub record FlawsTellCodes : Type 0 where
  pub one : (code : CodeParts) (f g : Flaw) → IsFirstFlaw code f → IsFirstFlaw code g → f ≡ g
  pub excludes : (code : CodeParts) (f : Flaw) → HasFilledPaths code → IsFirstFlaw code f → ⊥
  pub covers : (code : CodeParts) → ((f : Flaw) → IsFirstFlaw code f → ⊥) → HasFilledPaths code

-- What the check of capsules that may race and exchange is worth.
use Rattle.std.specs.Prelude.{◌≡◌, ℕ}
use Rattle.ppm_strands.specs.Tree.{Words}
use Rattle.ppm_unseen.specs.Conditions.{IsOrdered, IsFilled, Stands}
use Rattle.ppm_unseen.specs.Correct.{FaultsAreInvisible}
use Rattle.ppm_code.specs.declared.location.FrameWord.{FrameWord}
use Rattle.ppm_filled.specs.Racing.{Place}
use Rattle.ppm_gaps.specs.declared.racing.Flaw.{Flaw}
use Rattle.ppm_gaps.specs.Gaps.{AreFilledOnPaths}
use Rattle.ppm_racy.specs.declared.code.RacyParts.{RacyParts}
use Rattle.ppm_racy.specs.Code.{plain_code}
use Rattle.ppm_racy.specs.Racing.{racy_code, racy_system}
use Rattle.ppm_racy_gaps.specs.Conflicts.{HasNoRacyConflictIn}
use Rattle.ppm_racy_gaps.specs.Flaws.{IsFirstRacyFlaw}

-- no capsule of a code has a conflict, an exchange being a read and a write; and with puts in place of its exchanges none has a gap
pub record HasNoFlaw (code : RacyParts) : Type 0 where
  pub free : (number : ℕ) → HasNoRacyConflictIn code number
  pub filled : AreFilledOnPaths (plain_code code)

-- a code without flaws: each capsule is ordered and filled, though strands race; and from whatever words strands begin, their faults are
-- invisible where what they do stands in runs without faults
pub record IsRestartable (code : RacyParts) : Type 0 where
  pub paths : HasNoFlaw code
  pub ordered : (array_words : ℕ) (place : Place) → IsOrdered ((racy_code code array_words).capsule place)
  pub filled : (array_words : ℕ) (place : Place) → IsFilled ((racy_code code array_words).builds place) ((racy_code code array_words).capsule place)
  pub invisible : (array_words : ℕ) (root : FrameWord → ℕ) (arrays : Words)
      → Stands (racy_system code array_words root arrays) → FaultsAreInvisible (racy_system code array_words root arrays)

-- a code is that where it has no flaw
abbrev pub RacyCodesWithoutFlawsAreRestartable : Type 0
RacyCodesWithoutFlawsAreRestartable = (code : RacyParts) → HasNoFlaw code → IsRestartable code

-- a code has one first flaw, or none
pub record RacyFlawsTellCodes : Type 0 where
  pub one : (code : RacyParts) (f g : Flaw) → IsFirstRacyFlaw code f → IsFirstRacyFlaw code g → f ≡ g
  pub excludes : (code : RacyParts) (f : Flaw) → HasNoFlaw code → IsFirstRacyFlaw code f → ⊥
  pub covers : (code : RacyParts) → ((f : Flaw) → IsFirstRacyFlaw code f → ⊥) → HasNoFlaw code

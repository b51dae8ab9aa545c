-- In which turn a capsule made a change.
use Rattle.std.specs.Prelude.{◌≡◌, ◌⊎◌, ◌<◌, ℕ, ◌+◌, ◌==◌, ◌&&◌, nat_lt, if◌then◌else◌, List, [], ◌∷◌, length, Option, Some, None, slice_get}
use Rattle.ppm_strands.specs.Tree.{Words}
use Rattle.ppm_unseen.specs.Run.{State, passed}
use Rattle.ppm_code.specs.declared.location.FrameWord.{FrameWord}
use Rattle.ppm_filled.specs.Racing.{OwnWord, Place, Exit}
use Rattle.ppm_racy.specs.declared.code.RacyParts.{RacyParts}
use Rattle.ppm_interleaving.specs.declared.strand.Strand.{Strand}
use Rattle.ppm_interleaving.specs.declared.strand.Strand.TheVariants.{Running, Waiting, Tells, Over}
use Rattle.ppm_interleaving.specs.Shows.{system}
use Rattle.ppm_interleaving.specs.Turns.{Moment, ComesBy, came}
use Rattle.ppm_strand_runs.specs.declared.made.Made.{Made}

-- how many changes the capsule of a strand has made, and that of the strand with a number
abbrev pub count_by : Strand → ℕ
count_by (Running r) = length r.settled.items + length r.since.items
count_by (Waiting w) = 0
count_by (Tells f) = 0
count_by (Over f) = 0

abbrev pub count_of : Option Strand → ℕ
count_of None = 0
count_of (Some found) = count_by found

abbrev pub count_in : List Strand → (strand : ℕ) → ℕ
count_in strands strand = count_of (slice_get strands strand)

-- the note of a change that a strand has made in a turn, if it has made one more
abbrev pub made_now : (turn strand had has : ℕ) → List Made
made_now turn strand had has = if nat_lt had has then record { strand = strand; number = had; turn = turn } ∷ [] else []

-- the turn of a note of this change, or else another one; and the turn that the last of some notes tells of it
abbrev pub turn_by : Made → (strand number other : ℕ) → ℕ
turn_by m strand number other = if m.strand == strand && m.number == number then m.turn else other

abbrev pub made_in : List Made → (strand number other : ℕ) → ℕ
made_in [] strand number other = other
made_in (m ∷ made) strand number other = made_in made strand number (turn_by m strand number other)

module _ (code : RacyParts) (array_words : ℕ) (root : FrameWord → ℕ) (arrays : Words) where
  -- after moments the capsule of a strand has made so many changes since it last began, those too that changed nothing
  pub record HasMade (h : List Moment) (strand count : ℕ) : Type 0 where
    pub state : State OwnWord Place Exit
    pub comes : ComesBy (system code array_words root arrays) strand h state
    pub many : length (passed (came (system code array_words root arrays) comes)) ≡ count

  -- It has made its change with a number in this turn: in the last one, before which it had made as many and after which it has made one more; or in an
  -- earlier one, and it has made more than as many still.
  abbrev pub IsMadeIn : (strand number : ℕ) → List Moment → (turn : ℕ) → Type 0
  IsMadeIn strand number [] turn = ⊥
  IsMadeIn strand number (m ∷ h) turn =
      (HasMade h strand number × HasMade (m ∷ h) strand (number + 1) × (turn ≡ length h + 1))
      ⊎ (IsMadeIn strand number h turn × ((count : ℕ) × HasMade (m ∷ h) strand count × (number < count)))

  -- notes tell the turns of all changes that capsules have made
  abbrev pub AreMade : List Moment → List Made → Type 0
  AreMade h made = (strand number count : ℕ) → HasMade h strand count → number < count → IsMadeIn strand number h (made_in made strand number 0)

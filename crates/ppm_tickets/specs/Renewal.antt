-- Words that were saved come back, with takeover by places: each processor at its own place again,
-- each holder with the next tag.
use Rattle.std.specs.Prelude.{◌≡◌, ◌<◌, ◌+◌, ◌^◌, ℕ, List, [], ◌∷◌}
use Rattle.ppm_cells.specs.Cells.{IsCell}
use Rattle.ppm_cells.specs.Holder.{holder_word}
use Rattle.ppm_cells.specs.Memory.{read, AreWordsOf}
use Rattle.ppm_cells.specs.declared.cell.Cell.{Cell}
use Rattle.ppm_cells.specs.declared.cell.Cell.TheVariants.{FinishWord, CarryWord, DeadWord, HolderWord}
use Rattle.ppm_cells.specs.declared.shape.Shape.{Shape}
use Rattle.ppm_cells.specs.declared.shape.Takeover.TheVariants.{ByPlaces}
use Rattle.ppm_code.specs.declared.code.CodeParts.{CodeParts}
use Rattle.ppm_step.specs.Contents.{content_of}
use Rattle.ppm_step.specs.State.{State, after, opening}
use Rattle.ppm_step.specs.declared.content.Reading.TheVariants.{AsHolder}
use Rattle.ppm_step.specs.declared.turn.Turn.{Turn}
use Rattle.ppm_tickets.specs.Along.{homes, forked, taken, AreOrderly}
use Rattle.ppm_tickets.specs.Homes.{Home, Unborn}
use Rattle.ppm_tickets.specs.Saw.{Lawful}
use Rattle.ppm_tickets.specs.Tickets.{Opens}
use Rattle.ppm_tickets.specs.View.{most_words, word_as, view, kinds, bottoms}
use Rattle.ppm_tickets.specs.Words.{Held}

-- each carry word names the processor's own place, no processor is dead, holder words have the next
-- tag and name the place's own processor; the finish word may be any, and all else is the same
abbrev pub Renewed : Cell → (old new : ℕ) → Type 0
Renewed FinishWord old new = Unit {0}
Renewed (CarryWord c) old new = new ≡ c
Renewed (DeadWord c) old new = new ≡ 0
Renewed (HolderWord p) old new =
    (t : ℕ) × (c : ℕ) × (word_as (content_of AsHolder old) ≡ Held t c) × (t + 1 < 2 ^ 58)
    × (new ≡ holder_word (record { tag = t + 1; processor = p }))
Renewed cell old new = new ≡ old

-- these words come back as those; no holder had the last tag
pub record IsRenewal (s : Shape) (saved back : List ℕ) : Type 0 where
  pub fit : AreWordsOf s back
  pub renewed : (c : Cell) → IsCell s c → Renewed c (read s saved c) (read s back c)

module _ (s : Shape) (code : CodeParts) where
  -- what always holds, of a state
  abbrev pub IsLawful : State → (ℕ → Home) → (forked taken : List ℕ) → Type 0
  IsLawful state h f tk = AreWordsOf s state.words
      × Lawful s (view s state.words) (kinds s state.words) (bottoms s state.words) state.stand h f tk

  -- what always holds does of the words that come back, with all processors lost
  abbrev pub ComesBack : Type 0
  ComesBack = (state : State) (back : List ℕ) (h : ℕ → Home) (f tk : List ℕ)
      → s.takeover ≡ ByPlaces → IsLawful state h f tk → IsRenewal s state.words back
      → IsLawful (opening back s.processors) h f tk

  -- and goes on, with either takeover
  abbrev pub StaysLawful : Type 0
  StaysLawful = (state : State) (turns : List Turn) (h : ℕ → Home) (f tk : List ℕ)
      → IsLawful state h f tk → AreOrderly s code state h f turns
      → IsLawful (after s code state turns) (homes s code state h turns) (forked s code state f turns) (taken s code state tk turns)

-- a run in parts: turns, and words that come back
pub data Part : Type 0 where
  Ran : List Turn → Part
  CameBack : (back : List ℕ) → Part

module _ (s : Shape) (code : CodeParts) where
  -- what holds at the end, if each part's turns are orderly, and what came back is a renewal of the
  -- words before
  abbrev pub InParts : (P : State → (ℕ → Home) → List ℕ → List ℕ → Type 0) → State → (ℕ → Home)
      → (forked taken : List ℕ) → List Part → Type 0
  InParts P state h f tk [] = P state h f tk
  InParts P state h f tk (Ran turns ∷ parts) = AreOrderly s code state h f turns
      → InParts P (after s code state turns) (homes s code state h turns) (forked s code state f turns) (taken s code state tk turns) parts
  InParts P state h f tk (CameBack back ∷ parts) = IsRenewal s state.words back
      → InParts P (opening back s.processors) h f tk parts

  -- from words that open, whatever the parts, if the turns are orderly
  abbrev pub LawfulInParts : Type 0
  LawfulInParts = (keeper frame : ℕ) (ws : List ℕ) (parts : List Part) → s.takeover ≡ ByPlaces
      → frame < most_words → Opens s keeper frame ws
      → InParts (IsLawful s code) (opening ws s.processors) (λ r. Unborn) [] [] parts

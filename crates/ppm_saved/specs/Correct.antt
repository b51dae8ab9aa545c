-- A saved text tells its state.
use Rattle.std.specs.Prelude.{◌≡◌, ◌<◌, ◌^◌, ℕ, List, length}
use Rattle.std.specs.List.{AllByRecursion}
use Rattle.ppm_cells.specs.declared.shape.Shape.{Shape}
use Rattle.ppm_code.specs.declared.code.CodeParts.{CodeParts}
use Rattle.ppm_listing.specs.Listing.{listing_of}
use Rattle.ppm_listing.specs.Correct.{NumbersFit}
use Rattle.ppm_saved.specs.Names.{AreNames}
use Rattle.ppm_saved.specs.Runs.{runs_of}
use Rattle.ppm_saved.specs.Text.{saved_text}
use Rattle.ppm_saved.specs.declared.names.NamedLength.{NamedLength}
use Rattle.ppm_saved.specs.declared.run.Run.{Run}

-- a number of 64 bits
abbrev pub IsWord : ℕ → Type 0
IsWord n = n < 2 ^ 64

-- the length of an array is such
abbrev pub LengthFits : NamedLength → Type 0
LengthFits a = IsWord a.len

-- a run's word and its length are
abbrev pub RunFits : Run → Type 0
RunFits r = IsWord r.word × IsWord r.times

-- all numbers of a state fit 64 bits, as those of each value of its types do
pub record StateFits (arrays : List NamedLength) (code : CodeParts) (words : List ℕ) : Type 0 where
  pub names : AreNames arrays
  pub lengths : AllByRecursion LengthFits arrays
  pub numbers : NumbersFit code
  pub bytes : IsWord (length (listing_of code))
  pub runs : AllByRecursion RunFits (runs_of words)
  pub count : IsWord (length words)

-- two states are the same, but for how the dead are taken over
pub record AreOneState (s t : Shape) (xs ys : List NamedLength) (c d : CodeParts) (ws vs : List ℕ) : Type 0 where
  pub processors : s.processors ≡ t.processors
  pub room : s.room ≡ t.room
  pub slots : s.slots ≡ t.slots
  pub arrays : xs ≡ ys
  pub code : c ≡ d
  pub words : ws ≡ vs

-- two states with one text are one
abbrev pub SavedTextsTellStates : Type 0
SavedTextsTellStates = (s t : Shape) (xs ys : List NamedLength) (c d : CodeParts) (ws vs : List ℕ)
    → StateFits xs c ws → StateFits ys d vs → saved_text s xs c ws ≡ saved_text t ys d vs → AreOneState s t xs ys c d ws vs

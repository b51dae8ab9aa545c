-- Where the right branch of a fork block is.
use Rattle.std.specs.Prelude.{◌≡◌, ℕ, List, [], ◌∷◌, false}
use Rattle.ppm_tickets.specs.Words.{has}

-- not forked; being pushed by a place; a job of this entry; being popped by a place; stolen by a
-- place that is on the way to it; left to the strand that runs its left branch; begun
pub data Home : Type 0 where
  Unborn : Home
  Pushing : ℕ → Home
  Listed : (place slot tag : ℕ) → Home
  Popping : ℕ → Home
  Stolen : ℕ → Home
  Inline : Home
  Begun : Home

-- no number is twice in the list
abbrev pub Once : List ℕ → Type 0
Once [] = Unit {0}
Once (x ∷ l) = (has l x ≡ false) × Once l

-- The changes of the machine as those of the model.
use Rattle.std.specs.Prelude.{◌≡◌, ℕ, List, [], ◌∷◌, ◌++◌, length, map, get_or}
use Rattle.ppm_unseen.specs.Capsule.{constant, exchange}
use Rattle.ppm_unseen.specs.Run.{AllStill, Change as Asking, change}
use Rattle.ppm_interleaving.specs.declared.change.Change.{Change}
use Rattle.ppm_interleaving.specs.declared.change.Change.TheVariants.{Puts, Exchanges}

-- a change as a function of the word that is found
abbrev pub change_of : Change → Asking
change_of (Puts x v) = change x (constant v)
change_of (Exchanges x old new) = change x (exchange old new)

abbrev pub changes_of : List Change → List Asking
changes_of changes = map change_of changes

-- made again now, these changes would leave the words as they are
abbrev pub AreStill : (words : List ℕ) → List Change → Type 0
AreStill words changes = AllStill (λ x. get_or words x 0) (changes_of changes)

-- the first of them that would not, with its number from 0
pub record IsFirstNotStill (words : List ℕ) (changes : List Change) (at : ℕ) (k : Change) : Type 0 where
  pub front : List Change
  pub later : List Change
  pub same : changes ≡ front ++ k ∷ later
  pub number : length front ≡ at
  pub stand : AreStill words front
  pub falls : AreStill words (k ∷ []) → ⊥

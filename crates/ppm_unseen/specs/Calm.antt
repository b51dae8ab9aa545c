-- Strands whose writes are calm: what they do stands.
use Rattle.std.specs.Prelude.{◌≡◌, ℕ, List, [], ◌∷◌}
use Rattle.ppm_strands.specs.Capsule.{In}
use Rattle.ppm_unseen.specs.Capsule.{Capsule, Loads, Keeps, Reads, Changes, Ends}
use Rattle.ppm_unseen.specs.Run.{System, Deed, Changed, State, Comes, IsHistory, Change, passed}
use Rattle.ppm_unseen.specs.Conditions.{Stands}

-- where the changes are
abbrev pub places : List Change → List ℕ
places [] = []
places (k ∷ ks) = k.at ∷ places ks

-- the words w are changed already: no path changes a shared word twice, and each change that is made twice is as if made once
abbrev pub ChangesOncePast : {A E : Type 0} → List ℕ → Capsule A E → Type 0
ChangesOncePast w (Loads x go) = (v : ℕ) → ChangesOncePast w (go v)
ChangesOncePast w (Keeps x v rest) = ChangesOncePast w rest
ChangesOncePast w (Reads x go) = (v : ℕ) → ChangesOncePast w (go v)
ChangesOncePast w (Changes x g rest) = (In x w → ⊥) × ((v : ℕ) → g (g v) ≡ g v) × ChangesOncePast (x ∷ w) rest
ChangesOncePast w (Ends e) = Unit {0}

module _ {A K E O : Type 0} (s : System A K E O) where
  -- each capsule changes no shared word twice, and each change made twice is as made once, as a put or an exchange is; a sum isn't
  abbrev pub ChangeOnce : Type 0
  ChangeOnce = (k : K) → ChangesOncePast [] (s.code.capsule k)

  -- in no run without faults does a strand change a word that the capsule of another one, under way, has asked to change; reads may race
  abbrev pub WritesAreCalm : Type 0
  WritesAreCalm = (i : ℕ) (t : List (Deed A K O)) (σ : State A K E) (h : Comes s ⊥ i t σ) (who x v : ℕ) → (who ≡ i → ⊥)
      → IsHistory s ⊥ (Changed who x v ∷ t) → In x (places (passed h)) → ⊥

  -- then what is done stands
  abbrev pub CalmWritesStand : Type 0
  CalmWritesStand = ChangeOnce → WritesAreCalm → Stands s

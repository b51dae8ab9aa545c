-- A system whose strands race, and which meets the three conditions: each branch of a fork claims a word for itself.
use Rattle.std.specs.Prelude.{ℕ, suc, false, List, [], ◌∷◌}
use Rattle.ppm_strands.specs.Strand.{Frame}
use Rattle.ppm_strands.specs.Equalities.{numbers}
use Rattle.ppm_unseen.specs.Capsule.{Capsule, Keeps, Reads, Changes, Ends, Next, Forks, Closes, exchange}
use Rattle.ppm_unseen.specs.Run.{System, Changed, Forked, IsHistory}
use Rattle.ppm_unseen.specs.Conditions.{AreOrdered, AreFilled, Stands}
use Rattle.ppm_unseen.specs.Correct.{FaultsAreInvisible}

-- the first capsule, that of a branch with its number, and the one after the join
pub data Point : Type 0 where
  First : Point
  Claims : ℕ → Point
  Last : Point

-- an end forks all branches, or closes the strand with its own word 0 as the outcome
pub data Exit : Type 0 where
  ForksAll : Exit
  Tells : Exit

-- a frame there, whose own words are 0
abbrev pub frame_at : Point → Frame ℕ Point
frame_at p = record { own = λ x. 0; point = p }

-- the branches with these numbers
abbrev pub claimers : List ℕ → List (Frame ℕ Point)
claimers [] = []
claimers (k ∷ ks) = frame_at (Claims k) ∷ claimers ks

-- a branch exchanges 0 for its number and 1 more in word 0, then reads whose word 0 is, and keeps that
abbrev pub claiming : Point → Capsule ℕ Exit
claiming First = Ends ForksAll
claiming (Claims k) = Changes 0 (exchange 0 (suc k)) (Reads 0 (λ v. Keeps 0 v (Ends Tells)))
claiming Last = Ends Tells

-- what ends open, if the branches have these numbers
abbrev pub opened : List ℕ → Exit → (ℕ → ℕ) → Next ℕ Point ℕ
opened ks ForksAll o = Forks (claimers ks) (frame_at Last)
opened ks Tells o = Closes (o 0)

-- the system
abbrev pub claims : List ℕ → System ℕ Point Exit ℕ
claims ks = record {
  code = record { names = numbers; capsule = claiming; builds = λ k x. false; opens = opened ks; rejoin = λ g os. g };
  start = frame_at First ∷ [];
  words = λ x. 0;
}

-- it meets the conditions, and so its faults are invisible, though of two branches either one may be the first to claim the word
pub record RacingClaims : Type 0 where
  pub ordered : (ks : List ℕ) → AreOrdered (claims ks)
  pub filled : (ks : List ℕ) → AreFilled (claims ks)
  pub stands : (ks : List ℕ) → Stands (claims ks)
  pub invisible : (ks : List ℕ) → FaultsAreInvisible (claims ks)
  pub left_first : (j k : ℕ) → IsHistory (claims (j ∷ k ∷ [])) ⊥ (Changed 1 0 (suc j) ∷ Forked 0 (claimers (j ∷ k ∷ [])) ∷ [])
  pub right_first : (j k : ℕ) → IsHistory (claims (j ∷ k ∷ [])) ⊥ (Changed 2 0 (suc k) ∷ Forked 0 (claimers (j ∷ k ∷ [])) ∷ [])

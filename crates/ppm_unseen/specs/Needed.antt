-- Small systems that show that each of the three conditions is needed: each meets two of them, and faults show.
use Rattle.std.specs.Prelude.{ℕ, Bool, suc, ◌+◌, ◌==◌, cond, false, List, [], ◌∷◌}
use Rattle.ppm_strands.specs.Equalities.{numbers}
use Rattle.ppm_unseen.specs.Capsule.{Capsule, Keeps, Reads, Changes, Ends, Closes, constant, exchange}
use Rattle.ppm_unseen.specs.Run.{System, Deed, IsHistory}
use Rattle.ppm_unseen.specs.Conditions.{AreOrdered, IsFilled, AreFilled, Stands}

-- no block is built
abbrev pub builds_none : ℕ → Bool
builds_none x = false

-- two strands, 0 and 1, of one capsule each, after which a strand is over, with the sum of its own words 0 and 1; all words are 0 at the beginning
abbrev pub two : (builds : ℕ → Bool) → (left right : Capsule ℕ ℕ) → System ℕ ℕ ℕ ℕ
two builds left right = record {
  code = record { names = numbers; capsule = λ k. cond (k == 0) left right; builds = λ k. builds; opens = λ e o. Closes (o 0 + o 1); rejoin = λ g os. g };
  start = record { own = λ x. 0; point = 0 } ∷ record { own = λ x. 0; point = 1 } ∷ [];
  words = λ x. 0;
}

-- strand 0 reads word 0 and puts 1 more there: with a fault after the put it counts twice
abbrev pub counter : System ℕ ℕ ℕ ℕ
counter = two builds_none (Reads 0 (λ v. Changes 0 (constant (suc v)) (Ends 0))) (Ends 0)

-- strand 0 reads word 0, and keeps 1 in its own word 0 where it finds 0, else in its own word 1; strand 1 puts 1 there. With a fault between two
-- reads both own words are kept.
abbrev pub half_filled : System ℕ ℕ ℕ ℕ
half_filled = two builds_none (Reads 0 (λ v. cond (v == 0) (Keeps 0 1 (Ends 0)) (Keeps 1 1 (Ends 0)))) (Changes 0 (constant 1) (Ends 0))

-- each strand builds a block of its own word 0, and keeps nothing there: after a fault anything may stand in it
abbrev pub dirty : System ℕ ℕ ℕ ℕ
dirty = two (λ x. x == 0) (Ends 0) (Ends 0)

-- strand 0 exchanges 0 for 1 in word 0, and strand 1 exchanges it back: with a fault after that the first exchange happens twice
abbrev pub returning : System ℕ ℕ ℕ ℕ
returning = two builds_none (Changes 0 (exchange 0 1) (Ends 0)) (Changes 0 (exchange 1 0) (Ends 0))

-- a run with faults has a history that no run without faults has
abbrev pub FaultsAreVisible : System ℕ ℕ ℕ ℕ → Type 0
FaultsAreVisible s = (t : List (Deed ℕ ℕ ℕ)) × IsHistory s (Unit {0}) t × (IsHistory s ⊥ t → ⊥)

-- where a read comes before a change a fault may show
pub record OrderIsNeeded : Type 0 where
  pub filled : AreFilled counter
  pub stands : Stands counter
  pub visible : FaultsAreVisible counter

-- where two ways of a capsule keep different own words a fault may show
pub record FillingIsNeeded : Type 0 where
  pub ordered : AreOrdered half_filled
  pub stands : Stands half_filled
  pub visible : FaultsAreVisible half_filled

-- where a word of a block is not kept a fault may show, though all ways keep the same own words
pub record BlocksAreToBeFilled : Type 0 where
  pub ordered : AreOrdered dirty
  pub filled : (k : ℕ) → IsFilled builds_none (dirty.code.capsule k)
  pub stands : Stands dirty
  pub visible : FaultsAreVisible dirty

-- where a word comes back to what it was a fault may show
pub record StandingIsNeeded : Type 0 where
  pub ordered : AreOrdered returning
  pub filled : AreFilled returning
  pub visible : FaultsAreVisible returning

-- Runs of all strands together, one step after another, in any order: the histories of `Run` are those of such runs.
use Rattle.std.specs.Prelude.{◌≡◌, ◌↔◌, ℕ, ◌==◌, cond, List, [], ◌∷◌}
use Rattle.ppm_unseen.specs.Run.{System, Deed, State, begun_if_any, numbered, once_done, Unseen, Seen, Comes}
use Rattle.ppm_unseen.specs.Conditions.{AreOrdered, AreFilled, Stands}
use Rattle.ppm_unseen.specs.Correct.{IsBetween}

module _ {A K E O : Type 0} (s : System A K E O) where
  -- where all strands are, with strand i there
  abbrev pub with_strand : ℕ → State A K E → (ℕ → State A K E) → ℕ → State A K E
  with_strand i τ σ j = cond (j == i) τ (σ j)

  -- a run, by its history and where its strands are then: in each step one strand goes on, unseen by the others, or by a deed that they see
  pub data Together (faults : Type 0) : List (Deed A K O) → (ℕ → State A K E) → Type 0 where
    Start : Together faults [] (λ i. begun_if_any s (numbered 0 s.start i))
    GoesUnseen : {t : List (Deed A K O)} {σ : ℕ → State A K E} {τ : State A K E} (i : ℕ)
        → Together faults t σ → Unseen s faults t (σ i) τ → Together faults t (with_strand i τ σ)
    DoesOne : {t : List (Deed A K O)} {σ : ℕ → State A K E} {τ : State A K E} {d : Deed A K O} (i : ℕ)
        → Together faults t σ → Seen s i t (σ i) d τ → Together faults (d ∷ t) (with_strand i τ (λ j. once_done s j t d (σ j)))

  -- in a run each strand comes along the history, and strands that come along one history are those of a run
  abbrev pub RunsAreHistories : (faults : Type 0) → Type 0
  RunsAreHistories faults = (t : List (Deed A K O)) (σ : ℕ → State A K E) → Together faults t σ ↔ ((i : ℕ) → Comes s faults i t (σ i))

  -- each run with faults has beside it one without, with the same history, in which each strand that is where `IsBetween` says is in the same state
  abbrev pub EachRunHasOneWithout : Type 0
  EachRunHasOneWithout = AreOrdered s → AreFilled s → Stands s → (t : List (Deed A K O)) (σ : ℕ → State A K E) → Together (Unit {0}) t σ
      → (τ : ℕ → State A K E) × Together ⊥ t τ × ((i : ℕ) → IsBetween (σ i) → τ i ≡ σ i)

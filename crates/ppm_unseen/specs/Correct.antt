-- When faults are invisible, though strands race.
use Rattle.std.specs.Prelude.{◌↔◌, ℕ, List}
use Rattle.ppm_unseen.specs.Capsule.{Ends}
use Rattle.ppm_unseen.specs.Run.{System, Deed, State, NotYet, UnderWay, Waits, IsOver, Comes, IsHistory}
use Rattle.ppm_unseen.specs.Conditions.{AreOrdered, AreFilled, Stands}

-- the strand is at the end of a capsule, waits, is over or isn't forked yet
abbrev pub IsBetween : {A K E : Type 0} → State A K E → Type 0
IsBetween NotYet = Unit {0}
IsBetween (Waits g n fs) = Unit {0}
IsBetween IsOver = Unit {0}
IsBetween (UnderWay k (Ends e) o) = Unit {0}
IsBetween (UnderWay k rest o) = ⊥

module _ {A K E O : Type 0} (s : System A K E O) where
  -- faults are invisible: the histories of runs with faults are those of runs without; and where a strand comes in a run with faults, if it is at the
  -- end of a capsule, waits, is over or isn't forked yet, it comes along the same history without faults, at the same point and with the same own words
  pub record FaultsAreInvisible : Type 0 where
    pub histories : (t : List (Deed A K O)) → IsHistory s (Unit {0}) t ↔ IsHistory s ⊥ t
    pub strands : (t : List (Deed A K O)) → IsHistory s (Unit {0}) t → (i : ℕ) (σ : State A K E) → IsBetween σ
        → Comes s (Unit {0}) i t σ → Comes s ⊥ i t σ

  -- where each capsule is ordered and filled, and what is done stands in runs without faults
  abbrev pub FaultsAreInvisibleSo : Type 0
  FaultsAreInvisibleSo = AreOrdered s → AreFilled s → Stands s → FaultsAreInvisible

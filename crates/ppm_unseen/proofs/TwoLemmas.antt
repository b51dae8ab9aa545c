-- Systems of two strands of one capsule each: who comes along a history, and how often each strand changes words.
use Rattle.std.proofs.Common.{◌≡◌, ℕ, ◌+◌, ◌≤◌, ◌==◌, cond, Bool, false, List, [], ◌∷◌, inl, inr, refl, sym, ◌∙◌, subst}
use Rattle.std.proofs.lemmas.Bool.{cases_eq, cond_both, cond-false, ne_eqb, true≢false}
use Rattle.std.specs.Prelude.{Option, Some, None}
use Rattle.ppm_strands.specs.Capsule.{Memory}
use Rattle.ppm_strands.specs.Strand.{Frame}
use Rattle.ppm_unseen.specs.Capsule.{Capsule, Ends, Closes}
use Rattle.ppm_unseen.specs.Run.{System, Deed, doer, State}
use Rattle.ppm_unseen.specs.Run.{numbered, IsHistory}
use Rattle.ppm_unseen.specs.Run.{Comes, Begins, Others}
use Rattle.ppm_unseen.specs.Conditions.{IsFilled}
use Rattle.ppm_unseen.specs.Needed.{builds_none, two}
use Rattle.ppm_unseen.proofs.SingleLemmas.{HasAtMost, changes_by, Allows, changes_within}

-- strands of these systems
abbrev pub frame : ℕ → Frame ℕ ℕ
frame k = record { own = λ x. 0; point = k }

abbrev pub frames : List (Frame ℕ ℕ)
frames = frame 0 ∷ frame 1 ∷ []

-- there are two
pub no_more : (i : ℕ) → (i ≡ 0 → ⊥) → (i ≡ 1 → ⊥) → numbered 0 frames i ≡ None
no_more i a b = cond-false (i == 0) (Some (frame 0)) (cond (i == 1) (Some (frame 1)) None) (ne_eqb i 0 a)
    ∙ cond-false (i == 1) (Some (frame 1)) None (ne_eqb i 1 b)

-- what holds of both capsules holds at each point
pub at_each : (P : Capsule ℕ ℕ → Type 0) (left right : Capsule ℕ ℕ) → P left → P right → (k : ℕ) → P (cond (k == 0) left right)
at_each P left right l r k = cond_both (k == 0) left right P (λ e. l) (λ e. r)

-- who does nothing of a history comes along it
abbrev pub IsIdle : ℕ → List (Deed ℕ ℕ ℕ) → Type 0
IsIdle i [] = Unit {0}
IsIdle i (d ∷ t) = (doer d ≡ i → ⊥) × IsIdle i t

pub idle_comes : (s : System ℕ ℕ ℕ ℕ) (faults : Type 0) (i : ℕ) (t : List (Deed ℕ ℕ ℕ)) → IsIdle i t → (σ : State ℕ ℕ ℕ) × Comes s faults i t σ
idle_comes s faults i [] idle = (_, Begins)
idle_comes s faults i (d ∷ t) idle = (_, Others d idle.0 (idle_comes s faults i t idle.1).1)

module _ (builds : ℕ → Bool) (left right : Capsule ℕ ℕ) where
  -- their strands are over at each end
  pub closes : (e : ℕ) (o : Memory ℕ) → (outcome : ℕ) × ((two builds left right).code.opens e o ≡ Closes outcome)
  closes e o = (o 0 + o 1, refl)

  -- a history is known by both strands
  pub both_come : (faults : Type 0) (t : List (Deed ℕ ℕ ℕ)) → (σ : State ℕ ℕ ℕ) × Comes (two builds left right) faults 0 t σ
      → (σ : State ℕ ℕ ℕ) × Comes (two builds left right) faults 1 t σ → ((i : ℕ) → (i ≡ 0 → ⊥) → (i ≡ 1 → ⊥) → IsIdle i t)
      → IsHistory (two builds left right) faults t
  both_come faults t a b idle i = elim (cases_eq i 0) [
    | inl is ↦ subst (λ (j : ℕ). (σ : State ℕ ℕ ℕ) × Comes (two builds left right) faults j t σ) (sym is) a
    | inr isnt ↦ elim (cases_eq i 1) [
      | inl is ↦ subst (λ (j : ℕ). (σ : State ℕ ℕ ℕ) × Comes (two builds left right) faults j t σ) (sym is) b
      | inr other ↦ idle_comes (two builds left right) faults i t (idle i isnt other)
    ]
  ]

  -- only the left strand, or only the right one, makes changes
  pub only_left : HasAtMost 0 right → (i : ℕ) → (i ≡ 0 → ⊥) → Allows (two builds left right) closes 0 (numbered 0 frames i)
  only_left r i ne = elim (cases_eq i 1) [
    | inl is ↦ subst (λ (j : ℕ). Allows (two builds left right) closes 0 (numbered 0 frames j)) (sym is) r
    | inr isnt ↦ subst (λ (f : Option (Frame ℕ ℕ)). Allows (two builds left right) closes 0 f) (sym (no_more i ne isnt)) tt
  ]

  pub only_right : HasAtMost 0 left → (i : ℕ) → (i ≡ 1 → ⊥) → Allows (two builds left right) closes 0 (numbered 0 frames i)
  only_right l i ne = elim (cases_eq i 0) [
    | inl is ↦ subst (λ (j : ℕ). Allows (two builds left right) closes 0 (numbered 0 frames j)) (sym is) l
    | inr isnt ↦ subst (λ (f : Option (Frame ℕ ℕ)). Allows (two builds left right) closes 0 f) (sym (no_more i isnt ne)) tt
  ]

  -- if the left strand makes one change at most, it makes no two
  pub not_twice : HasAtMost 1 left → (t : List (Deed ℕ ℕ ℕ)) → IsHistory (two builds left right) ⊥ t → changes_by 0 t ≤ 1
  not_twice l t all = changes_within (two builds left right) closes 1 0 l t all

-- keeps nothing
pub keeps_nothing : (e : ℕ) → IsFilled builds_none (Ends e)
keeps_nothing e o = (λ x. false, λ x is. absurd (true≢false (sym is)), λ x b. b)

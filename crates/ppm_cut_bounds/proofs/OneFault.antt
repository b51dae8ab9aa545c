-- A program is within the bounds, or has one fault.
use Rattle.std.proofs.Common.{◌≡◌, ◌≢◌, ◌≤◌, ℕ, suc, Bool, true, false, nat_le, List, [], ◌∷◌, refl, ap, arith}
use Rattle.std.specs.List.{AllByRecursion}
use Rattle.std.proofs.lemmas.Bool.{leb-true, leb-false}
use Rattle.ppm_tree.specs.Tree.{Statement, Procedure, ProgramTree}
use Rattle.ppm_tree.specs.Parts.{statements_in}
use Rattle.ppm_cut_bounds.specs.declared.bound.Bound.{Bound}
use Rattle.ppm_cut_bounds.specs.declared.bound.Bound.TheVariants as bound
use Rattle.ppm_cut_bounds.specs.declared.bound_error.BoundError.{BoundError}
use Rattle.ppm_cut_bounds.specs.declared.bound_error.BoundError.TheVariants as error
use Rattle.ppm_cut_bounds.specs.Capsules.{capsule_bound}
use Rattle.ppm_cut_bounds.specs.Bounds.{limit_of, own_count, count_of, KeepsAt, Keeps, AllKeep, capsule_limit, IsWithinBounds}
use Rattle.ppm_cut_bounds.specs.Refusals.{IsFirstPast, Here, Behind, IsRefused}
use Rattle.ppm_cut_bounds.specs.Correct.{IsFault, HaveOneFault}

-- a number that cannot but be within a limit is
within : (m n : ℕ) → ((m ≤ n → ⊥) → ⊥) → m ≤ n
within m n h = by (nat_le m n) refl where
  by : (b : Bool) → nat_le m n ≡ b → m ≤ n
  by true e = leb-true m n e
  by false e = absurd (h (λ k. omega (arith, leb-false m n e, k)))

-- statements that cannot but keep a bound do
keep_at : (b : Bound) (ss : List Statement) → ((KeepsAt b ss → ⊥) → ⊥) → KeepsAt b ss
keep_at b [] h = tt
keep_at b (s ∷ ss) h =
    (within (count_of b s) (limit_of b) (λ past. h (λ k. past k.0)), keep_at b ss (λ past. h (λ k. past k.1)))

-- a procedure that cannot but keep a bound does
keep : (b : Bound) (p : Procedure) → ((Keeps b p → ⊥) → ⊥) → Keeps b p
keep b p h = record {
  own = within (own_count b p) (limit_of b) (λ past. h (λ k. past k.own));
  hidden = keep_at b (statements_in p.body) (λ past. h (λ k. past k.hidden));
}

-- where no procedure is the first that passes a bound, all keep it
all_keep : (b : Bound) (ps : List Procedure) → ((n : ℕ) → IsFirstPast b ps n → ⊥) → AllByRecursion (Keeps b) ps
all_keep b [] none = tt
all_keep b (p ∷ ps) none =
    let here : Keeps b p = keep b p (λ past. none 0 (Here past)) in (here, all_keep b ps (λ n h. none (suc n) (Behind here h)))

-- where one is, not all keep it
not_all : (b : Bound) (ps : List Procedure) (n : ℕ) → IsFirstPast b ps n → AllByRecursion (Keeps b) ps → ⊥
not_all b [] n h all = elim h [ ]
not_all b (p ∷ ps) _ (Here past) all = past all.0
not_all b (p ∷ ps) _ (Behind {n = n} here h) all = not_all b ps n h all.1

-- there is one first procedure at most
one_first : (b : Bound) (ps : List Procedure) (m n : ℕ) → IsFirstPast b ps m → IsFirstPast b ps n → m ≡ n
one_first b [] m n h k = elim h [ ]
one_first b (p ∷ ps) _ _ (Here past) (Here other) = refl
one_first b (p ∷ ps) _ _ (Here past) (Behind here k) = absurd (past here)
one_first b (p ∷ ps) _ _ (Behind here h) (Here past) = absurd (past here)
one_first b (p ∷ ps) _ _ (Behind {n = m} here h) (Behind {n = n} other k) = ap suc (one_first b ps m n h k)

module _ (t : ProgramTree) where
  slots_past : (n : ℕ) → IsFirstPast bound.Slots t.procedures n → AllKeep bound.Slots t → ⊥
  slots_past n h k = not_all bound.Slots t.procedures n h k

  caught_past : (n : ℕ) → IsFirstPast bound.Caught t.procedures n → AllKeep bound.Caught t → ⊥
  caught_past n h k = not_all bound.Caught t.procedures n h k

  -- the refusals of a program are one
  one : (d e : BoundError) → IsRefused t d → IsRefused t e → d ≢ error.NoMemory → e ≢ error.NoMemory → d ≡ e
  one (error.TooManySlots m) (error.TooManySlots n) h k g i = ap (λ x. error.TooManySlots x) (one_first bound.Slots t.procedures m n h k)
  one (error.TooManySlots m) (error.TooManyCaught n) h k g i = absurd (slots_past m h k.0)
  one (error.TooManySlots m) error.TooManyCapsules h k g i = absurd (slots_past m h k.0)
  one (error.TooManyCaught m) (error.TooManySlots n) h k g i = absurd (slots_past n k h.0)
  one (error.TooManyCaught m) (error.TooManyCaught n) h k g i = ap (λ x. error.TooManyCaught x) (one_first bound.Caught t.procedures m n h.1 k.1)
  one (error.TooManyCaught m) error.TooManyCapsules h k g i = absurd (caught_past m h.1 k.1)
  one error.TooManyCapsules (error.TooManySlots n) h k g i = absurd (slots_past n k h.0)
  one error.TooManyCapsules (error.TooManyCaught n) h k g i = absurd (caught_past n k.1 h.1)
  one error.TooManyCapsules error.TooManyCapsules h k g i = refl
  one error.NoMemory e h k g i = absurd (g refl)
  one d error.NoMemory h k g i = absurd (i refl)

  -- a program that is refused is not within the bounds
  either : (e : BoundError) → IsRefused t e → e ≢ error.NoMemory → IsWithinBounds t → ⊥
  either (error.TooManySlots n) h given w = slots_past n h w.slots
  either (error.TooManyCaught n) h given w = caught_past n h.1 w.caught
  either error.TooManyCapsules h given w = omega (arith, h.2, w.capsules)
  either error.NoMemory h given w = given refl

  module _ (free : (e : BoundError) → IsFault t e → ⊥) where
    slots : AllKeep bound.Slots t
    slots = all_keep bound.Slots t.procedures (λ n h. free (error.TooManySlots n) (record { refused = h; given = λ f. cc }))

    caught : AllKeep bound.Caught t
    caught = all_keep bound.Caught t.procedures (λ n h. free (error.TooManyCaught n) (record { refused = (slots, h); given = λ f. cc }))

    few : capsule_bound t ≤ capsule_limit
    few = within (capsule_bound t) capsule_limit (λ past. free error.TooManyCapsules (record {
      refused = (slots, caught, omega (arith, past));
      given = λ f. cc;
    }))

    -- one that has no fault is
    all : IsWithinBounds t
    all = record { slots = slots; caught = caught; capsules = few }

-- a program is within the bounds, or has one fault
pub one_fault : HaveOneFault
one_fault t = record {
  fault = λ d e h k. one t d e h.refused k.refused h.given k.given;
  either = λ e h. either t e h.refused h.given;
  none = all t;
}

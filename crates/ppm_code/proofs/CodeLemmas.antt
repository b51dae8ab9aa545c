-- What holds of the procedures and capsules of a code by their numbers.
use Rattle.std.proofs.Common.{◌≡◌, ◌<◌, ◌≤◌, ℕ, List, length, refl, sym, subst, arith, inl, inr, Option, Some, None}
use Rattle.std.specs.Prelude.{IfSome, slice_get}
use Rattle.std.specs.List.{All}
use Rattle.std.proofs.lemmas.Option.{slice_get_within, slice_get_cases, get_or_from_slice_get}
use Rattle.ppm_code.specs.declared.code.Capsule.{Capsule}
use Rattle.ppm_code.specs.declared.code.CodeParts.{CodeParts}
use Rattle.ppm_code.specs.declared.code.Procedure.{Procedure}
use Rattle.ppm_code.specs.declared.instr.Instr.{Instr}
use Rattle.ppm_code.specs.Limits.{slot_limit}
use Rattle.ppm_code.specs.Code.{Fits, IsCode, IsCapsule, IsCapsuleOf}
use Rattle.ppm_code.specs.Sizes.{slots_in, slots_of, procedure_in, procedure_at}
use Rattle.ppm_code.specs.Strands.{instrs_in, instrs_of, entry_in, entry_of}
use Rattle.ppm_code.specs.Tidy.{IsTidy, IsTidyOne, IsTidyCapsule}

-- what holds of all holds of one
pub all_at : {X : Type 0} (P : X → Type 0) (xs : List X) (k : ℕ) (x : X) → All P xs → slice_get xs k ≡ Some x → P x
all_at P xs k x all one = subst P (get_or_from_slice_get xs k x x one) (all k x (slice_get_within xs k x one))

-- one that is there
pub one_at : {X : Type 0} (xs : List X) (k : ℕ) → k < length xs → (x : X) × (slice_get xs k ≡ Some x)
one_at xs k less = elim (slice_get_cases xs k).1 [
  | inl h ↦ (h.0, h.2)
  | inr h ↦ absurd (omega (arith, less, h.0))
]

module _ (code : CodeParts) where
  -- the procedure of a capsule that is one of it
  pub procedure_is : (q k : ℕ) → IsCapsuleOf code q k → procedure_at code k ≡ q
  procedure_is q k h = by (slice_get code.capsules k) refl
    where
      by : (o : Option Capsule) → slice_get code.capsules k ≡ o → procedure_in o ≡ q
      by None e = let c = one_at code.capsules k h.1 in absurd (cc)
      by (Some c) e = subst (λ (o : Option Capsule). IfSome o (λ d. d.procedure ≡ q)) e h.0

  -- a procedure's entry is one of its capsules
  pub entry_is : IsCode code → (q : ℕ) → q < length code.procedures → IsCapsuleOf code q (entry_of code q)
  entry_is is_code q less =
      let p = one_at code.procedures q less in
      subst (λ (o : Option Procedure). IfSome o (λ r. IsCapsuleOf code q r.entry) → IsCapsuleOf code q (entry_in o)) (sym p.1) (λ h. h) (is_code.entries q)

module _ (code : CodeParts) (is_code : IsCode code) where
  -- a procedure has few slots
  pub slots_small : (q : ℕ) → slots_of code q ≤ slot_limit
  slots_small q = by (slice_get code.procedures q) refl
    where
      by : (o : Option Procedure) → slice_get code.procedures q ≡ o → slots_in o ≤ slot_limit
      by None e = omega arith
      by (Some p) e = all_at (λ (r : Procedure). r.slots ≤ slot_limit) code.procedures q p is_code.slots_most e

  -- an instruction of a capsule fits
  pub instr_fits : (number at : ℕ) (i : Instr) → number < length code.capsules → slice_get (instrs_of code number) at ≡ Some i
      → Fits code (procedure_at code number) (instrs_of code number) at i
  instr_fits number at i less one =
      let c = one_at code.capsules number less in
      subst (λ (o : Option Capsule). slice_get (instrs_in o) at ≡ Some i → Fits code (procedure_in o) (instrs_in o) at i) (sym c.1)
      ((all_at (IsCapsule code) code.capsules number c.0 is_code.capsules c.1).each at i) one

  -- a capsule of a tidy code is tidy
  pub tidy_at : IsTidy code → (number : ℕ) → number < length code.capsules → IsTidyCapsule code (instrs_of code number)
  tidy_at tidy number less =
      let c = one_at code.capsules number less in
      subst (λ (o : Option Capsule). IsTidyCapsule code (instrs_in o)) (sym c.1) (all_at (IsTidyOne code) code.capsules number c.0 tidy c.1)

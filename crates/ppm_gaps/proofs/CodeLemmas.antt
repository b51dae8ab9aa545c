-- The capsules of a code: paths stay within them, and those that are not there are filled.
use Rattle.std.proofs.Common.{◌≡◌, ◌<◌, ◌≤◌, ℕ, ◌+◌, Bool, true, false, List, [], ◌∷◌, ◌++◌, length, Option, Some, None, inl, inr, refl, sym, ap, ◌∙◌, subst, arith, nat_lt}
use Rattle.std.specs.Prelude.{slice_get}
use Rattle.std.proofs.lemmas.Bool.{ltb-true, ltb-false, cases_lt}
use Rattle.std.proofs.lemmas.List.{length-append}
use Rattle.std.proofs.lemmas.Option.{same_Some, slice_get_past, slice_get_within}
use Rattle.ppm_code.specs.declared.act.End.{End}
use Rattle.ppm_code.specs.declared.class.May.{May}
use Rattle.ppm_code.specs.declared.class.May.TheVariants.{Work, Read, Write, Branch, Stop}
use Rattle.ppm_code.specs.declared.code.Capsule.{Capsule}
use Rattle.ppm_code.specs.declared.code.CodeParts.{CodeParts}
use Rattle.ppm_code.specs.declared.instr.Instr.{Instr}
use Rattle.ppm_code.specs.declared.instr.Instr.TheVariants.{Const, Move, Add, Sub, Mul, Div, Rem, Equal, NotEqual, Less, AtMost, Len, CutLeft, CutRight}
use Rattle.ppm_code.specs.declared.instr.Instr.TheVariants.{LoadSlot, StoreCur, Give, Get, Put, BranchZero, BranchNonZero, Room as RoomFor, StoreNew, Ends}
use Rattle.ppm_code.specs.Code.{Fits, IsCapsule, IsCode}
use Rattle.ppm_code.specs.Paths.{may, Any, GoesTo, Path, Here, Then}
use Rattle.ppm_code.specs.Strands.{instrs_in, instrs_of}
use Rattle.ppm_code.proofs.CodeLemmas.{all_at, one_at}
use Rattle.ppm_filled.specs.Filled.{IsFilledOnPaths}
use Rattle.ppm_gaps.specs.Gaps.{AreFilledOnPaths, IsFilledIn}
use Rattle.ppm_gaps.specs.Stops.{StaysWithin}

-- a branch of a capsule of a code leads forward within it
branch_fits : (code : CodeParts) (procedure : ℕ) (is : List Instr) (at t : ℕ) (i : Instr) → may i ≡ Branch t → Fits code procedure is at i
    → (at < t) × (t < length is)
branch_fits code procedure is at t (Const d v) e fits = cc
branch_fits code procedure is at t (Move d a) e fits = cc
branch_fits code procedure is at t (Add d a b l) e fits = cc
branch_fits code procedure is at t (Sub d a b l) e fits = cc
branch_fits code procedure is at t (Mul d a b l) e fits = cc
branch_fits code procedure is at t (Div d a b l) e fits = cc
branch_fits code procedure is at t (Rem d a b l) e fits = cc
branch_fits code procedure is at t (Equal d a b) e fits = cc
branch_fits code procedure is at t (NotEqual d a b) e fits = cc
branch_fits code procedure is at t (Less d a b) e fits = cc
branch_fits code procedure is at t (AtMost d a b) e fits = cc
branch_fits code procedure is at t (Len d a) e fits = cc
branch_fits code procedure is at t (CutLeft d a b l) e fits = cc
branch_fits code procedure is at t (CutRight d a b l) e fits = cc
branch_fits code procedure is at t (LoadSlot d s) e fits = cc
branch_fits code procedure is at t (StoreCur s a) e fits = cc
branch_fits code procedure is at t (Give a) e fits = cc
branch_fits code procedure is at t (Get d a b l) e fits = cc
branch_fits code procedure is at t (Put a b s l) e fits = cc
branch_fits code procedure is at t (BranchZero a u) e fits = let same : u ≡ t = cc in subst (λ (n : ℕ). (at < n) × (n < length is)) same fits
branch_fits code procedure is at t (BranchNonZero a u) e fits = let same : u ≡ t = cc in subst (λ (n : ℕ). (at < n) × (n < length is)) same fits
branch_fits code procedure is at t (RoomFor n) e fits = cc
branch_fits code procedure is at t (StoreNew o a) e fits = cc
branch_fits code procedure is at t (Ends stop) e fits = cc

-- what stands last
last_is : (front : List Instr) (i : Instr) → slice_get (front ++ (i ∷ [])) (length front) ≡ Some i
last_is [] i = refl
last_is (j ∷ front) i = last_is front i

module _ (code : CodeParts) (c : Capsule) (fine : IsCapsule code c) where
  abbrev is : List Instr
  is = c.instrs

  abbrev front : List Instr
  front = fine.last.0

  size : length is ≡ length front + 1
  size = ap length fine.last.2 ∙ length-append front (Ends fine.last.1 ∷ [])

  -- an instruction that is no end is not the last one
  next_within : (at : ℕ) (i : Instr) → slice_get is at ≡ Some i → (may i ≡ Stop → ⊥) → at + 1 < length is
  next_within at i there goes = elim (cases_lt (at + 1) (length is)) [
    | inl less ↦ less
    | inr past ↦
        let place : at ≡ length front = omega (arith, past, size, slice_get_within is at i there) in
        let last : slice_get is at ≡ Some (Ends fine.last.1) =
        ap (λ (xs : List Instr). slice_get xs at) fine.last.2 ∙ ap (λ (n : ℕ). slice_get (front ++ (Ends fine.last.1 ∷ [])) n) place
        ∙ last_is front (Ends fine.last.1) in
        let same : i ≡ Ends fine.last.1 = same_Some i (Ends fine.last.1) (sym there ∙ last) in
        absurd (goes (ap may same))
  ]

  goes_within : (at to : ℕ) (i : Instr) → slice_get is at ≡ Some i → GoesTo (may i) at to → to < length is
  goes_within at to i there goes = by (may i) refl goes
    where
      next : (to ≡ at + 1) → (may i ≡ Stop → ⊥) → to < length is
      next e other = omega (arith, e, next_within at i there other)

      by : (m : May) → may i ≡ m → GoesTo m at to → to < length is
      by Work e g = next g (λ s. let both : Work ≡ Stop = sym e ∙ s in cc)
      by (Read k) e g = next g (λ s. let both : Read k ≡ Stop = sym e ∙ s in cc)
      by (Write k) e g = next g (λ s. let both : Write k ≡ Stop = sym e ∙ s in cc)
      by (Branch t) e (inl g) = next g (λ s. let both : Branch t ≡ Stop = sym e ∙ s in cc)
      by (Branch t) e (inr g) = let fits = branch_fits code c.procedure is at t i e (fine.each at i there) in omega (arith, g, fits.0, fits.1)
      by Stop e g = absurd g

  pub stays_within : StaysWithin is
  stays_within _ (Here _) = omega (arith, size)
  stays_within to (Then _ at _ m p here allowed goes) = goes_within at to here.0 here.1 (subst (λ (n : May). GoesTo n at to) (sym here.2) goes)

-- in a capsule of a code an instruction that is no end is not the last one
pub code_stays : (code : CodeParts) → IsCode code → (number : ℕ) → number < length code.capsules → StaysWithin (instrs_of code number)
code_stays code is_code number less =
    let c = one_at code.capsules number less in
    subst (λ (o : Option Capsule). StaysWithin (instrs_in o)) (sym c.1)
    (stays_within code c.0 (all_at (IsCapsule code) code.capsules number c.0 is_code.capsules c.1))

-- no instructions, no gap
nothing_there : IsFilledOnPaths []
nothing_there = record {
  none_left_out = λ find write stop c x. let e = x.writes.1 in cc;
  none_unbuilt = λ write stop word x. let e = x.writes.1 in cc;
  one_block = λ stop other x. let e = x.some.1 in cc;
  none_hung = λ at x. let e = x.there in cc;
}

-- a capsule that is not there has none
past_last : (code : CodeParts) (number : ℕ) → length code.capsules ≤ number → IsFilledIn code number
past_last code number past =
    let none : instrs_of code number ≡ [] = ap instrs_in (slice_get_past code.capsules number past) in
    subst (λ (is : List Instr). IsFilledOnPaths is) (sym none) nothing_there

-- each capsule that is there has none, so none has
pub all_filled : (code : CodeParts) (n : ℕ) → length code.capsules ≤ n → ((k : ℕ) → k < n → IsFilledIn code k) → AreFilledOnPaths code
all_filled code n past below number = by (nat_lt number n) refl
  where
    by : (b : Bool) → nat_lt number n ≡ b → IsFilledIn code number
    by true e = below number (ltb-true number n e)
    by false e = past_last code number (omega (arith, past, ltb-false number n e))

-- One answer at most.
use Rattle.std.proofs.Common.{◌≡◌, ◌∙◌, inl, inr, ℕ, zero, suc, ◌+◌, ◌<◌, List, [], ◌∷◌, ◌++◌, Option, Some, None, slice_get, refl, sym, ap, subst, arith}
use Rattle.std.specs.List.{AllByRecursion}
use Rattle.ppm_code.specs.Code.{IsCode}
use Rattle.ppm_listing.specs.Correct.{NumbersFit}
use Rattle.ppm_listing_reader.specs.declared.listing_error.Fault.{Fault}
use Rattle.ppm_listing_reader.specs.declared.listing_error.Fault.TheVariants.{NoSuchForm, OutOfRange, NotForward, NoEnd, WrongRoom, NotThere}
use Rattle.ppm_listing_reader.specs.ErrorNumbers.{fault_number}
use Rattle.ppm_listing_reader.specs.Correct.{IsListing, IsNotAfter, FaultsTellListings}
use Rattle.ppm_racy.specs.declared.code.RacyParts.{RacyParts}
use Rattle.ppm_racy.specs.Code.{plain_code}
use Rattle.ppm_racy_listing.specs.Exchanges.{exchanged_code}
use Rattle.ppm_racy_listing.specs.Plain.{olds_of, plain_of_text}
use Rattle.ppm_racy_listing.specs.Correct.{HasRacyFault, OfPlain, OldOutOfRange, IsFirstRacyFault, IsRacyListing, RacyFaultsTellListings}
use Rattle.ppm_racy_listing.proofs.ExchangeLemmas.{same_code}
use Rattle.ppm_racy_listing.proofs.LineLemmas.{IsRegister}
use Rattle.ppm_racy_listing.proofs.WholeLemmas.{text_is_racy}
use Rattle.ppm_racy_listing.proofs.WrongLemmas.{all_registers}
use Rattle.ppm_racy_listing.proofs.BackLemmas.{racy_olds, racy_read, code_same, olds_small}

-- a fault is told by its number
abbrev fault_numbered : ℕ → Fault
fault_numbered (suc zero) = NoSuchForm
fault_numbered (suc (suc zero)) = OutOfRange
fault_numbered (suc (suc (suc zero))) = NotForward
fault_numbered (suc (suc (suc (suc zero)))) = NoEnd
fault_numbered (suc (suc (suc (suc (suc zero))))) = WrongRoom
fault_numbered _ = NotThere

same_fault : (rule other : Fault) → fault_number rule ≡ fault_number other → rule ≡ other
same_fault rule other e = sym (back rule) ∙ ap fault_numbered e ∙ back other
  where
    back : (f : Fault) → fault_numbered (fault_number f) ≡ f
    back NoSuchForm = refl
    back OutOfRange = refl
    back NotForward = refl
    back NoEnd = refl
    back WrongRoom = refl
    back NotThere = refl

one_fault : (text : List ℕ) (rule other : Fault) (line later : ℕ) → IsFirstRacyFault text rule line → IsFirstRacyFault text other later
    → (rule ≡ other) × (line ≡ later)
one_fault text rule other line later f g = go (f.first other later g.there) (g.first rule line f.there)
  where
    go : IsNotAfter (rule, line) (other, later) → IsNotAfter (other, later) (rule, line) → (rule ≡ other) × (line ≡ later)
    go (inl h) (inl k) = absurd (omega (arith, h, k))
    go (inl h) (inr k) = absurd (omega (arith, h, k.0))
    go (inr h) (inl k) = absurd (omega (arith, h.0, k))
    go (inr h) (inr k) = (same_fault rule other (omega (arith, h.1, k.1)), h.0)

-- with puts in place of its exchanges a listing is one
plain_listing : (text : List ℕ) (c : RacyParts) → IsRacyListing text c → IsListing (plain_of_text text) (plain_code c)
plain_listing text c is = record { code = is.code; fits = is.fits; same = (racy_read text c is).0 }

small_at : (os : List (Option ℕ)) → AllByRecursion IsRegister os → (at old : ℕ) → slice_get os at ≡ Some (Some old) → old < 64
small_at [] h at old e = cc
small_at (None ∷ os) h zero old e = cc
small_at (Some first ∷ os) h zero old e = let is : first ≡ old = inner e in subst (λ n. n < 64) is h.0
  where
    inner : {x y : ℕ} → Some (Some x) ≡ Some (Some y) → x ≡ y
    inner e = cc
small_at (o ∷ os) h (suc at) old e = small_at os h.1 at old e

pub told : FaultsTellListings → RacyFaultsTellListings
told law = record { excludes = excluded; covers = covered; one_code = one; one_fault = one_fault }
  where
    excluded : (text : List ℕ) (code : RacyParts) (rule : Fault) (line : ℕ) → IsRacyListing text code → HasRacyFault text rule line → ⊥
    excluded text c rule line is (OfPlain _ _ h) = law.excludes (plain_of_text text) (plain_code c) rule line (plain_listing text c is) h
    excluded text c _ _ is (OldOutOfRange number old e large) =
        omega (arith, large, small_at (racy_olds c ++ None ∷ []) (olds_small c) number old (ap (λ os. slice_get os number) (sym (racy_read text c is).1) ∙ e))

    covered : (text : List ℕ) → ((rule : Fault) (line : ℕ) → HasRacyFault text rule line → ⊥) → (code : RacyParts) × IsRacyListing text code
    covered text none =
        let (code, is) = law.covers (plain_of_text text) (λ rule line h. none rule line (OfPlain rule line h)) in
        let small = all_registers (olds_of text) (λ at old e large. none OutOfRange (at + 1) (OldOutOfRange at old e large)) in
        let same = same_code (olds_of text) code in (
          exchanged_code (olds_of text) code,
          record {
            code = subst IsCode (sym same) is.code;
            fits = subst NumbersFit (sym same) is.fits;
            same = text_is_racy text code is.same is.fits small;
          },
        )

    one : (text : List ℕ) (c d : RacyParts) → IsRacyListing text c → IsRacyListing text d → c ≡ d
    one text c d f g =
        let plain = law.one_code (plain_of_text text) (plain_code c) (plain_code d) (plain_listing text c f) (plain_listing text d g) in
        let back = sym (code_same c (None ∷ [])) ∙ ap (λ os. exchanged_code os (plain_code c)) (sym (racy_read text c f).1) in
        let there = ap (λ os. exchanged_code os (plain_code d)) (racy_read text d g).1 ∙ code_same d (None ∷ []) in
        back ∙ ap (exchanged_code (olds_of text)) plain ∙ there

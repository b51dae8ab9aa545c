-- One answer at most.
use Rattle.std.proofs.Common.{◌≡◌, ◌∙◌, ◌⊎◌, inl, inr, ℕ, zero, suc, ◌+◌, ◌<◌, ◌≤◌, List, refl, sym, ap, arith}
use Rattle.ppm_code.specs.declared.code.CodeParts.{CodeParts}
use Rattle.ppm_listing.proofs.CodeLemmas.{listing_tells_code}
use Rattle.ppm_listing_reader.specs.declared.listing_error.Fault.{Fault}
use Rattle.ppm_listing_reader.specs.declared.listing_error.Fault.TheVariants.{NoSuchForm, OutOfRange, NotForward, NoEnd, WrongRoom, NotThere}
use Rattle.ppm_listing_reader.specs.ErrorNumbers.{fault_number}
use Rattle.ppm_listing_reader.specs.Places.{code_in}
use Rattle.ppm_listing_reader.specs.Correct.{standing_of, HasFault, Breaks, IsFirstFault, IsListing}
use Rattle.ppm_listing_reader.proofs.ReadingLemmas.{text_is_listing}

-- a fault is told by its number
abbrev fault_numbered : ℕ → Fault
fault_numbered (suc zero) = NoSuchForm
fault_numbered (suc (suc zero)) = OutOfRange
fault_numbered (suc (suc (suc zero))) = NotForward
fault_numbered (suc (suc (suc (suc zero)))) = NoEnd
fault_numbered (suc (suc (suc (suc (suc zero))))) = WrongRoom
fault_numbered _ = NotThere

same_fault : (rule other : Fault) → fault_number rule ≡ fault_number other → rule ≡ other
same_fault rule other e = sym (back rule) ∙ ap fault_numbered e ∙ back other
  where
    back : (f : Fault) → fault_numbered (fault_number f) ≡ f
    back NoSuchForm = refl
    back OutOfRange = refl
    back NotForward = refl
    back NoEnd = refl
    back WrongRoom = refl
    back NotThere = refl

pub one_fault : (text : List ℕ) (rule other : Fault) (line later : ℕ) → IsFirstFault text rule line → IsFirstFault text other later
    → (rule ≡ other) × (line ≡ later)
one_fault text rule other line later f g = go (f.first other later g.there) (g.first rule line f.there)
  where
    go : (line < later) ⊎ ((line ≡ later) × (fault_number rule ≤ fault_number other))
        → (later < line) ⊎ ((later ≡ line) × (fault_number other ≤ fault_number rule))
        → (rule ≡ other) × (line ≡ later)
    go (inl h) (inl k) = absurd (omega (arith, h, k))
    go (inl h) (inr k) = absurd (omega (arith, h, k.0))
    go (inr h) (inl k) = absurd (omega (arith, h.0, k))
    go (inr h) (inr k) = (same_fault rule other (omega (arith, h.1, k.1)), h.0)

pub one_code : (text : List ℕ) (c d : CodeParts) → IsListing text c → IsListing text d → c ≡ d
one_code text c d f g = listing_tells_code c d f.fits g.fits (sym f.same ∙ g.same)

pub covers : (text : List ℕ) → ((rule : Fault) (line : ℕ) → HasFault text rule line → ⊥) → (code : CodeParts) × IsListing text code
covers text none = (code_in (standing_of text), text_is_listing text (λ rule number h. none rule (number + 1) (Breaks rule number h)))

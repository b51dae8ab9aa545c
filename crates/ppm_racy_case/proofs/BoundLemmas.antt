-- A fault of a listing with exchanges stands at one of its lines, and so the line's number is small.
use Rattle.std.proofs.Common.{◌≡◌, ℕ, zero, suc, ◌+◌, ◌<◌, ◌≤◌, List, [], ◌∷◌, length, map, Some, slice_get, ap, arith}
use Rattle.ppm_pieces.specs.Pieces.{split}
use Rattle.ppm_listing_reader.specs.declared.listing_error.Fault.{Fault}
use Rattle.ppm_listing_reader.specs.declared.listing_error.ListingError.{ListingError}
use Rattle.ppm_listing_reader.specs.declared.listing_error.ListingError.TheVariants as error
use Rattle.ppm_listing_reader.specs.declared.place.Place.TheVariants.{AtVersion}
use Rattle.ppm_listing_reader.specs.ErrorNumbers.{line_of}
use Rattle.ppm_listing_reader.specs.Forms.{lines_of}
use Rattle.ppm_listing_reader.specs.Places.{code_in}
use Rattle.ppm_listing_reader.specs.Correct.{standing_of, HasFault, Breaks, TooLong}
use Rattle.ppm_case.proofs.BoundLemmas.{number_within, standing_length, lines_length, pieces_length}
use Rattle.ppm_racy_listing.specs.Plain.{plain_line, old_in, plain_of_text, olds_of}
use Rattle.ppm_racy_listing.specs.Correct.{HasRacyFault, OfPlain, OldOutOfRange, IsRacyRefusal}
use Rattle.ppm_racy_listing.proofs.LineLemmas.{plain_pieces}

mapped : {A B : Type 0} (f : A → B) (xs : List A) → length (map f xs) ≡ length xs
mapped f [] = omega arith
mapped f (x ∷ xs) = omega (arith, mapped f xs)

within : {A : Type 0} (xs : List A) (at : ℕ) (x : A) → slice_get xs at ≡ Some x → at < length xs
within [] at x e = cc
within (y ∷ ys) zero x e = omega arith
within (y ∷ ys) (suc at) x e = omega (arith, within ys at x e)

plain_within : (text : List ℕ) (rule : Fault) (line : ℕ) → HasFault (plain_of_text text) rule line → line ≤ 2 + length text
plain_within text rule line (Breaks r number h) =
    omega (
      arith,
      number_within (code_in (standing_of (plain_of_text text))) rule AtVersion (standing_of (plain_of_text text)) number h,
      standing_length AtVersion (lines_of (plain_of_text text)),
      lines_length (split 10 (plain_of_text text)),
      ap (λ (l : List (List ℕ)). length l) (plain_pieces text),
      mapped plain_line (split 10 text),
      pieces_length text,
    )
plain_within text rule line (TooLong long) = omega arith

fault_within : (text : List ℕ) (rule : Fault) (line : ℕ) → HasRacyFault text rule line → line ≤ 2 + length text
fault_within text rule line (OfPlain _ _ h) = plain_within text rule line h
fault_within text _ _ (OldOutOfRange number old e large) =
    omega (arith, within (olds_of text) number (Some old) e, mapped old_in (split 10 text), pieces_length text)

pub refusal_within : (text : List ℕ) (e : ListingError) → IsRacyRefusal text e → line_of e ≤ 2 + length text
refusal_within text (error.NoSuchForm line) h = fault_within text _ line h.there
refusal_within text (error.OutOfRange line) h = fault_within text _ line h.there
refusal_within text (error.NotForward line) h = fault_within text _ line h.there
refusal_within text (error.NoEnd line) h = fault_within text _ line h.there
refusal_within text (error.WrongRoom line) h = fault_within text _ line h.there
refusal_within text (error.NotThere line) h = fault_within text _ line h.there
refusal_within text error.NoMemory h = omega arith

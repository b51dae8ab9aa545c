-- A fault of a listing stands at one of its lines, and so the line's number is small.
use Rattle.std.proofs.Common.{◌≡◌, ◌∙◌, ℕ, zero, suc, ◌+◌, ◌≤◌, ◌==◌, Bool, true, false, cond, List, [], ◌∷◌, length, Option, Some, None, refl, sym, ap, arith}
use Rattle.ppm_pieces.specs.Pieces.{split, in_front}
use Rattle.ppm_code.specs.declared.code.CodeParts.{CodeParts}
use Rattle.ppm_listing_reader.specs.declared.listing_error.Fault.{Fault}
use Rattle.ppm_listing_reader.specs.declared.listing_error.ListingError.{ListingError}
use Rattle.ppm_listing_reader.specs.declared.listing_error.ListingError.TheVariants as error
use Rattle.ppm_listing_reader.specs.declared.part.Part.{Part}
use Rattle.ppm_listing_reader.specs.declared.place.Place.{Place}
use Rattle.ppm_listing_reader.specs.declared.place.Place.TheVariants.{AtVersion}
use Rattle.ppm_listing_reader.specs.ErrorNumbers.{line_of}
use Rattle.ppm_listing_reader.specs.Forms.{unended, lines_in, lines_of}
use Rattle.ppm_listing_reader.specs.Places.{standing, next, standing_from, code_in}
use Rattle.ppm_listing_reader.specs.Faults.{BreaksAt}
use Rattle.ppm_listing_reader.specs.Correct.{standing_of, HasFault, Breaks, TooLong, IsRefusal}

pub number_within : (code : CodeParts) (rule : Fault) (place : Place) (ls : List (Option Part)) (number : ℕ) → BreaksAt code rule place ls number → number ≤ length ls
number_within code rule place [] zero h = omega arith
number_within code rule place [] (suc number) h = absurd h
number_within code rule place (l ∷ ls) zero h = omega arith
number_within code rule place (l ∷ ls) (suc number) h = omega (arith, number_within code rule (next place l) ls number h)

pub standing_length : (place : Place) (ls : List (Option Part)) → length (standing_from place ls) ≡ length ls
standing_length place [] = refl
standing_length place (l ∷ ls) = omega (arith, standing_length (next place (standing place l)) ls)

pub lines_length : (ps : List (List ℕ)) → length (lines_in ps) ≤ length ps
lines_length [] = omega arith
lines_length ([] ∷ []) = omega arith
lines_length ((b ∷ bs) ∷ []) = omega arith
lines_length (p ∷ q ∷ ps) = omega (arith, lines_length (q ∷ ps))

in_front_length : (b : ℕ) (ps : List (List ℕ)) → length (in_front b ps) ≤ 1 + length ps
in_front_length b [] = omega arith
in_front_length b (p ∷ ps) = omega arith

pub pieces_length : (bs : List ℕ) → length (split 10 bs) ≤ 1 + length bs
pieces_length [] = omega arith
pieces_length (b ∷ bs) = by (b == 10) (pieces_length bs)
  where
    by : (same : Bool) → length (split 10 bs) ≤ 1 + length bs → length (cond same ([] ∷ split 10 bs) (in_front b (split 10 bs))) ≤ 1 + length (b ∷ bs)
    by true h = omega (arith, h)
    by false h = omega (arith, h, in_front_length b (split 10 bs))

fault_within : (text : List ℕ) (rule : Fault) (line : ℕ) → HasFault text rule line → line ≤ 2 + length text
fault_within text rule line (Breaks r number h) =
    omega (
      arith,
      number_within (code_in (standing_of text)) rule AtVersion (standing_of text) number h,
      standing_length AtVersion (lines_of text),
      lines_length (split 10 text),
      pieces_length text,
    )
fault_within text rule line (TooLong long) = omega arith

pub refusal_within : (text : List ℕ) (e : ListingError) → IsRefusal text e → line_of e ≤ 2 + length text
refusal_within text (error.NoSuchForm line) h = fault_within text _ line h.there
refusal_within text (error.OutOfRange line) h = fault_within text _ line h.there
refusal_within text (error.NotForward line) h = fault_within text _ line h.there
refusal_within text (error.NoEnd line) h = fault_within text _ line h.there
refusal_within text (error.WrongRoom line) h = fault_within text _ line h.there
refusal_within text (error.NotThere line) h = fault_within text _ line h.there
refusal_within text error.NoMemory h = omega arith

-- What a text is once its arrays and its listing were read.
use Rattle.std.proofs.Common.{◌≡◌, ◌∙◌, ℕ, ◌+◌, ◌^◌, ◌<◌, ◌≤◌, true, false, List, [], ◌∷◌, ◌++◌, length, map, Result, Ok, Err, IfErr, refl, sym, ap, subst, arith, length-append}
use Rattle.std.specs.List.{All, flat_map}
use Rattle.std.specs.Result.{IsErrAnd}
use Rattle.ppm_words.specs.Inputs.{IsInput}
use Rattle.ppm_words.specs.declared.named_array.NamedArray.{NamedArray}
use Rattle.ppm_code.specs.declared.code.CodeParts.{CodeParts}
use Rattle.ppm_listing_reader.specs.declared.listing_error.ListingError.{ListingError}
use Rattle.ppm_listing_reader.specs.declared.listing_error.ListingError.TheVariants as error
use Rattle.ppm_listing_reader.specs.declared.listing_error.Fault.{Fault as ListingFault}
use Rattle.ppm_listing_reader.specs.ErrorNumbers.{line_of}
use Rattle.ppm_listing_reader.specs.Correct.{IsListing, IsFirstFault}
use Rattle.ppm_listing_reader.specs.Correct.{IsRefusal as IsListingRefusal}
use Rattle.ppm_depth.specs.Start.{NamesArrays}
use Rattle.ppm_case.specs.declared.case_error.InputFault.TheVariants as input
use Rattle.ppm_case.specs.declared.case_error.CaseFault.TheVariants as fault
use Rattle.ppm_case.specs.declared.case_error.CaseError.{CaseError}
use Rattle.ppm_case.specs.declared.case_error.CaseError.TheVariants as refusal
use Rattle.ppm_case.specs.Spelling.{Written, array_line, array_of, begins_array}
use Rattle.ppm_case.specs.Rules.{case_limit}
use Rattle.ppm_case.specs.Judged.{AreRead}
use Rattle.ppm_case.specs.Case.{Front, IsCaseOf}
use Rattle.ppm_case.specs.Faults.{HasFault, BadLine, BadListing, BadRoot, IsRefusal, IsArrayRefusal, listing_refused}
use Rattle.ppm_case.proofs.BoundLemmas.{refusal_within}

pub exit_err : {T : Type 0} (Q : CaseError → Type 0) (e : CaseError) (r : Result T CaseError) → IsErrAnd r (λ y. y ≡ e) → Q e → IfErr r Q
exit_err Q e (Ok x) is h = absurd is
exit_err Q e (Err y) is h = subst Q (sym is) h

-- the arrays are refused
pub array_refused : (text : List ℕ) (e : CaseError) → IsArrayRefusal text e → IsRefusal text e
array_refused text (refusal.Refused (fault.OfInput bad) line) h =
    subst (λ (n : ℕ). HasFault text (fault.OfInput bad) n) (sym h.there) (BadLine h.front bad h.is)
array_refused text (refusal.Refused (fault.OfListing rule) line) h = absurd h
array_refused text refusal.NoMemory h = tt

module _ {text : List ℕ} {arrays : List NamedArray} {lines : ℕ} {rest : List ℕ} (r : AreRead text arrays lines rest) (short : length text ≤ case_limit) where
  abbrev pub its_front : Front text
  its_front = record { short = short; arrays = r.written; follow = r.follow; rest = rest; same = r.same }

  pub lines_are : lines ≡ length arrays
  lines_are = r.count ∙ sym (length_of r.written) ∙ ap (λ (l : List NamedArray). length l) (sym r.are)
    where
      length_of : (xs : List Written) → length (map array_of xs) ≡ length xs
      length_of [] = refl
      length_of (x ∷ xs) = omega (arith, length_of xs)

  -- the line of a refusal is small
  pub line_within : IsInput arrays → (e : ListingError) → IsListingRefusal rest e → lines + line_of e < 2 ^ 32
  line_within limits e h =
      omega (
        arith,
        refusal_within rest e h,
        short,
        limits.arrays_bound,
        lines_are,
        ap (λ (l : List ℕ). length l) r.same,
        length-append (flat_map array_line r.written) rest,
      )

  pub few_lines : IsInput arrays → lines ≤ 64
  few_lines limits = omega (arith, limits.arrays_bound, lines_are)

  -- the listing is refused
  module _ (begins : begins_array rest ≡ false) where
    pub at_line : (rule : ListingFault) (line : ℕ) → IsFirstFault rest rule line → HasFault text (fault.OfListing rule) (lines + line)
    at_line rule line first = subst (λ (n : ℕ). HasFault text (fault.OfListing rule) (n + line)) (sym r.count) (BadListing its_front rule line begins first)

    pub refused : (e : ListingError) → IsListingRefusal rest e → IsRefusal text (listing_refused lines e)
    refused (error.NoSuchForm line) h = at_line _ line h
    refused (error.OutOfRange line) h = at_line _ line h
    refused (error.NotForward line) h = at_line _ line h
    refused (error.NoEnd line) h = at_line _ line h
    refused (error.WrongRoom line) h = at_line _ line h
    refused (error.NotThere line) h = at_line _ line h
    refused error.NoMemory h = tt

  -- the root names an array that is not there
  pub unnamed : (code : CodeParts) → IsListing rest code → (NamesArrays code arrays → ⊥) → HasFault text (fault.OfInput input.NotThere) (lines + 2)
  unnamed code listed never =
      subst (λ (n : ℕ). HasFault text (fault.OfInput input.NotThere) (n + 2)) (sym r.count)
      (BadRoot its_front code listed (λ named. never (subst (λ (l : List NamedArray). NamesArrays code l) (sym r.are) named)))

  -- or all is well
  pub case_is : (code : CodeParts) → IsListing rest code → NamesArrays code arrays → IsCaseOf text code arrays
  case_is code listed named = record { front = its_front; listed = listed; arrays = r.are; named = named }

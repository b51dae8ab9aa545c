-- What a text is once its arrays and its listing were read.
use Rattle.std.proofs.Common.{◌≡◌, ℕ, ◌+◌, ◌^◌, ◌<◌, ◌≤◌, false, List, length, sym, ap, subst, arith, length-append}
use Rattle.std.specs.List.{flat_map}
use Rattle.ppm_words.specs.Inputs.{IsInput}
use Rattle.ppm_words.specs.declared.named_array.NamedArray.{NamedArray}
use Rattle.ppm_listing_reader.specs.declared.listing_error.ListingError.{ListingError}
use Rattle.ppm_listing_reader.specs.declared.listing_error.ListingError.TheVariants as error
use Rattle.ppm_listing_reader.specs.declared.listing_error.Fault.{Fault as ListingFault}
use Rattle.ppm_listing_reader.specs.ErrorNumbers.{line_of}
use Rattle.ppm_depth.specs.Start.{NamesArrays}
use Rattle.ppm_case.specs.declared.case_error.InputFault.TheVariants as input
use Rattle.ppm_case.specs.declared.case_error.CaseFault.TheVariants as fault
use Rattle.ppm_case.specs.declared.case_error.CaseError.{CaseError}
use Rattle.ppm_case.specs.declared.case_error.CaseError.TheVariants as refusal
use Rattle.ppm_case.specs.Spelling.{array_line, begins_array}
use Rattle.ppm_case.specs.Rules.{case_limit}
use Rattle.ppm_case.specs.Judged.{AreRead}
use Rattle.ppm_case.specs.Faults.{IsArrayRefusal, listing_refused}
use Rattle.ppm_case.proofs.ReadLemmas.{its_front, lines_are}
use Rattle.ppm_racy.specs.declared.code.RacyParts.{RacyParts}
use Rattle.ppm_racy.specs.Code.{plain_code}
use Rattle.ppm_racy_listing.specs.Correct.{IsRacyListing, IsFirstRacyFault, IsRacyRefusal}
use Rattle.ppm_racy_case.specs.Case.{IsRacyCaseOf}
use Rattle.ppm_racy_case.specs.Faults.{HasRacyCaseFault, BadLine, BadListing, BadRoot, IsRacyCaseRefusal}
use Rattle.ppm_racy_case.proofs.BoundLemmas.{refusal_within}

-- the arrays are refused
pub array_refused : (text : List ℕ) (e : CaseError) → IsArrayRefusal text e → IsRacyCaseRefusal text e
array_refused text (refusal.Refused (fault.OfInput bad) line) h =
    subst (λ (n : ℕ). HasRacyCaseFault text (fault.OfInput bad) n) (sym h.there) (BadLine h.front bad h.is)
array_refused text (refusal.Refused (fault.OfListing rule) line) h = absurd h
array_refused text refusal.NoMemory h = tt

module _ {text : List ℕ} {arrays : List NamedArray} {lines : ℕ} {rest : List ℕ} (r : AreRead text arrays lines rest) (short : length text ≤ case_limit) where
  -- the line of a refusal is small
  pub line_within : IsInput arrays → (e : ListingError) → IsRacyRefusal rest e → lines + line_of e < 2 ^ 32
  line_within limits e h =
      omega (
        arith,
        refusal_within rest e h,
        short,
        limits.arrays_bound,
        lines_are r short,
        ap (λ (l : List ℕ). length l) r.same,
        length-append (flat_map array_line r.written) rest,
      )

  -- the listing is refused
  module _ (begins : begins_array rest ≡ false) where
    pub at_line : (rule : ListingFault) (line : ℕ) → IsFirstRacyFault rest rule line → HasRacyCaseFault text (fault.OfListing rule) (lines + line)
    at_line rule line first =
        subst (λ (n : ℕ). HasRacyCaseFault text (fault.OfListing rule) (n + line)) (sym r.count) (BadListing (its_front r short) rule line begins first)

    pub refused : (e : ListingError) → IsRacyRefusal rest e → IsRacyCaseRefusal text (listing_refused lines e)
    refused (error.NoSuchForm line) h = at_line _ line h
    refused (error.OutOfRange line) h = at_line _ line h
    refused (error.NotForward line) h = at_line _ line h
    refused (error.NoEnd line) h = at_line _ line h
    refused (error.WrongRoom line) h = at_line _ line h
    refused (error.NotThere line) h = at_line _ line h
    refused error.NoMemory h = tt

  -- the root names an array that is not there
  pub unnamed : (code : RacyParts) → IsRacyListing rest code → (NamesArrays (plain_code code) arrays → ⊥)
      → HasRacyCaseFault text (fault.OfInput input.NotThere) (lines + 2)
  unnamed code listed never =
      subst (λ (n : ℕ). HasRacyCaseFault text (fault.OfInput input.NotThere) (n + 2)) (sym r.count)
      (BadRoot (its_front r short) code listed (λ named. never (subst (λ (l : List NamedArray). NamesArrays (plain_code code) l) (sym r.are) named)))

  -- or all is well
  pub case_is : (code : RacyParts) → IsRacyListing rest code → NamesArrays (plain_code code) arrays → IsRacyCaseOf text code arrays
  case_is code listed named = record { front = its_front r short; listed = listed; arrays = r.are; named = named }

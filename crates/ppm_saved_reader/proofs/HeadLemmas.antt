-- What the lines in front of the words say, or what is wrong with them.
use Rattle.std.proofs.Common.{◌≡◌, ◌≢◌, ◌∙◌, ℕ, ◌+◌, ◌<◌, ◌≤◌, true, false, nat_lt, List, [], ◌∷◌, length, take, drop, codes, Some, None, refl, sym, ap, subst}
use Rattle.std.specs.List.{list_all, All, AllByRecursion}
use Rattle.std.specs.Str.{bytes_eq}
use Rattle.std.proofs.lemmas.Bool.{and_parts, and_from, cond-true, cond-false, ltb-true, lt-ltb}
use Rattle.std.proofs.lemmas.List.Elements.{recursion_from_All, All-from_recursion}
use Rattle.ppm_pieces.specs.Pieces.{halves_of}
use Rattle.ppm_code.specs.Free.{IsFree}
use Rattle.ppm_code.specs.Tidy.{IsTidy}
use Rattle.ppm_code.specs.declared.code.CodeParts.{CodeParts}
use Rattle.ppm_war.specs.Conflicts.{IsFirstConflictOf}
use Rattle.ppm_war.specs.declared.checked.Conflict.{Conflict}
use Rattle.ppm_listing_reader.specs.Correct.{IsListing, FaultsTellListings}
use Rattle.ppm_listing_reader.specs.Correct.{IsRefusal as IsListingRefusal}
use Rattle.ppm_listing_reader.specs.declared.listing_error.ListingError.{ListingError}
use Rattle.ppm_listing_reader.specs.declared.listing_error.ListingError.TheVariants as listing
use Rattle.ppm_saved.specs.declared.names.NamedLength.{NamedLength}
use Rattle.ppm_saved_reader.specs.declared.lines.Sizes.{Sizes}
use Rattle.ppm_saved_reader.specs.declared.saved_error.Fault.TheVariants as fault
use Rattle.ppm_saved_reader.specs.ErrorNumbers.{refusal_behind}
use Rattle.ppm_saved_reader.specs.Lines.{first_line, version_in, sizes_in, array_in, count_in}
use Rattle.ppm_saved_reader.specs.Rules.{sizes_fit, words_for, is_other_count, line_feeds}
use Rattle.ppm_saved_reader.specs.Places.{AtVersion, AtSizes, AtArrays, AtWords, AtRuns, NamesArrays, Goes, Version, Shaped, Coded, Counted}
use Rattle.ppm_saved_reader.specs.Places.{IsWrong, NoVersion, NoSizes, NoFit, NoArray, BadCode, NoCount, OtherCount, Short, NoListing, Conflicting}
use Rattle.ppm_saved_reader.specs.Correct.{IsRead, IsWrongAt, Breaks, IsRefusal}
use Rattle.ppm_saved_reader.proofs.LineLemmas.{first_line_some, first_line_none, first_line_missing}
use Rattle.ppm_saved_reader.proofs.PlaceLemmas.{one_code, reads_on}

module _ (text line rest : List ℕ) (cut : halves_of 10 text ≡ Some (line, rest)) where
  -- the version
  pub version_read : bytes_eq line (codes "saved 1") ≡ true → Goes AtVersion text 1 AtSizes rest
  version_read same =
      Version (first_line_some version_in text line rest line cut (cond-true (bytes_eq line (codes "saved 1")) (Some line) None same))

  pub version_other : bytes_eq line (codes "saved 1") ≡ false → IsWrong AtVersion text fault.NoSuchForm
  version_other other = NoVersion (first_line_none version_in text line rest cut (cond-false (bytes_eq line (codes "saved 1")) (Some line) None other))

  -- the sizes
  pub sizes_read : (z : Sizes) → sizes_in line ≡ Some z → sizes_fit z ≡ true → Goes AtSizes text 1 (AtArrays z []) rest
  sizes_read z says fit = Shaped (first_line_some sizes_in text line rest z cut says) fit

  pub sizes_large : (z : Sizes) → sizes_in line ≡ Some z → sizes_fit z ≡ false → IsWrong AtSizes text fault.OutOfRange
  sizes_large z says large = NoFit (first_line_some sizes_in text line rest z cut says) large

  pub sizes_other : sizes_in line ≡ None → IsWrong AtSizes text fault.NoSuchForm
  sizes_other says = NoSizes (first_line_none sizes_in text line rest cut says)

  module _ {whole : List ℕ} {z : Sizes} {arrays : List NamedLength} {number : ℕ} (none : first_line array_in text ≡ None)
      (read : IsRead whole (AtArrays z arrays) number text) where
    -- the line of a code
    pub code_other : count_in (codes "code") line ≡ None → IsWrongAt whole fault.NoSuchForm number
    code_other says = Breaks read (NoArray none (first_line_none (count_in (codes "code")) text line rest cut says))

    module _ (bytes : ℕ) (says : count_in (codes "code") line ≡ Some bytes) where
      pub code_short : length rest < bytes → IsWrongAt whole fault.NoSuchForm number
      code_short short = Breaks read (BadCode none (first_line_some (count_in (codes "code")) text line rest bytes cut says) (Short short))

      module _ (within : bytes ≤ length rest) where
        -- no code has this listing
        pub code_unlisted : ((code : CodeParts) → IsListing (take bytes rest) code → NamesArrays (length arrays) code → ⊥) → IsWrongAt whole fault.BadListing number
        code_unlisted never =
            Breaks read (BadCode none (first_line_some (count_in (codes "code")) text line rest bytes cut says) (NoListing within never))

        pub code_unnamed : (code : CodeParts) → IsListing (take bytes rest) code → (NamesArrays (length arrays) code → ⊥)
            → IsWrongAt whole fault.BadListing number
        code_unnamed code is never =
            code_unlisted (λ other these named. never (subst (NamesArrays (length arrays)) (one_code (take bytes rest) other code these is) named))

        pub code_unfit : (code : CodeParts) → IsListing (take bytes rest) code → NamesArrays (length arrays) code → (IsFree code → IsTidy code → ⊥)
            → IsWrongAt whole fault.BadCode number
        code_unfit code is named never =
            Breaks read (BadCode none (first_line_some (count_in (codes "code")) text line rest bytes cut says) (Conflicting within is named never))

        -- the refusal of a listing is one of the text
        pub code_refused : FaultsTellListings → (e : ListingError) → IsListingRefusal (take bytes rest) e → IsRefusal whole (refusal_behind number e)
        code_refused law (listing.NoSuchForm at) f = code_unlisted (λ code is named. law.excludes (take bytes rest) code _ at is f.there)
        code_refused law (listing.OutOfRange at) f = code_unlisted (λ code is named. law.excludes (take bytes rest) code _ at is f.there)
        code_refused law (listing.NotForward at) f = code_unlisted (λ code is named. law.excludes (take bytes rest) code _ at is f.there)
        code_refused law (listing.NoEnd at) f = code_unlisted (λ code is named. law.excludes (take bytes rest) code _ at is f.there)
        code_refused law (listing.WrongRoom at) f = code_unlisted (λ code is named. law.excludes (take bytes rest) code _ at is f.there)
        code_refused law (listing.NotThere at) f = code_unlisted (λ code is named. law.excludes (take bytes rest) code _ at is f.there)
        code_refused law listing.NoMemory f = tt

        -- or the code was read
        pub code_read : (code : CodeParts) → IsListing (take bytes rest) code → NamesArrays (length arrays) code → IsFree code → IsTidy code
            → IsRead whole (AtWords z arrays code) (number + (1 + line_feeds (take bytes rest))) (drop bytes rest)
        code_read code is named free tidy =
            reads_on read (Coded none (first_line_some (count_in (codes "code")) text line rest bytes cut says) within is named free tidy)

  module _ {whole : List ℕ} {z : Sizes} {arrays : List NamedLength} {code : CodeParts} {number : ℕ}
      (read : IsRead whole (AtWords z arrays code) number text) where
    -- the count of words
    pub count_missing : count_in (codes "words") line ≡ None → IsWrongAt whole fault.NoSuchForm number
    count_missing says = Breaks read (NoCount (first_line_none (count_in (codes "words")) text line rest cut says))

    module _ (said count : ℕ) (says : count_in (codes "words") line ≡ Some said) (for : count ≡ words_for z arrays) where
      pub count_differs : said ≢ count → IsWrongAt whole fault.WrongCount number
      count_differs other =
          Breaks read (OtherCount (first_line_some (count_in (codes "words")) text line rest said cut says) (λ e. absurd (other (e ∙ sym for))))

      pub count_untrue : said ≡ count → is_other_count count rest ≡ true → IsWrongAt whole fault.WrongCount number
      count_untrue same other =
          Breaks read (OtherCount (first_line_some (count_in (codes "words")) text line rest said cut says)
          (λ e. ap (λ n. is_other_count n rest) same ∙ other))

      pub count_read : said ≡ count → is_other_count count rest ≡ false → IsRead whole (AtRuns z arrays code []) (number + 1) rest
      count_read same right =
          reads_on read (Counted (first_line_some (count_in (codes "words")) text line rest said cut says) (same ∙ for)
          (ap (λ n. is_other_count n rest) same ∙ right))

-- there is no line
pub version_none : (text : List ℕ) → halves_of 10 text ≡ None → IsWrong AtVersion text fault.NoSuchForm
version_none text e = NoVersion (first_line_missing version_in text e)

pub sizes_none : (text : List ℕ) → halves_of 10 text ≡ None → IsWrong AtSizes text fault.NoSuchForm
sizes_none text e = NoSizes (first_line_missing sizes_in text e)

pub code_none : {whole : List ℕ} {z : Sizes} {arrays : List NamedLength} {number : ℕ} (text : List ℕ) → halves_of 10 text ≡ None
    → IsRead whole (AtArrays z arrays) number text → IsWrongAt whole fault.NoSuchForm number
code_none text e read = Breaks read (NoArray (first_line_missing array_in text e) (first_line_missing (count_in (codes "code")) text e))

pub count_none : {whole : List ℕ} {z : Sizes} {arrays : List NamedLength} {code : CodeParts} {number : ℕ} (text : List ℕ) → halves_of 10 text ≡ None
    → IsRead whole (AtWords z arrays code) number text → IsWrongAt whole fault.NoSuchForm number
count_none text e read = Breaks read (NoCount (first_line_missing (count_in (codes "words")) text e))

-- all numbers are below a limit, or not
pub named_from : (n : ℕ) (numbers : List ℕ) → list_all (λ number. nat_lt number n) numbers ≡ true → All (λ number. number < n) numbers
named_from n numbers h = All-from_recursion (λ number. number < n) numbers (go numbers h)
  where
    go : (xs : List ℕ) → list_all (λ number. nat_lt number n) xs ≡ true → AllByRecursion (λ number. number < n) xs
    go [] h = tt
    go (x ∷ xs) h = let k = and_parts (nat_lt x n) (list_all (λ number. nat_lt number n) xs) h in (ltb-true x n k.0, go xs k.1)

pub named_back : (n : ℕ) (numbers : List ℕ) → All (λ number. number < n) numbers → list_all (λ number. nat_lt number n) numbers ≡ true
named_back n numbers h = go numbers (recursion_from_All (λ number. number < n) numbers h)
  where
    go : (xs : List ℕ) → AllByRecursion (λ number. number < n) xs → list_all (λ number. nat_lt number n) xs ≡ true
    go [] h = refl
    go (x ∷ xs) h = and_from (nat_lt x n) (list_all (λ number. nat_lt number n) xs) (lt-ltb x n h.0) (go xs h.1)

-- a code with a conflict is not free
pub not_free : (code : CodeParts) (k : Conflict) → IsFirstConflictOf code k → IsFree code → ⊥
not_free code k f free = free k.capsule k.read_at k.write_at k.class f.first.first.conflict

-- Where a line of a saved text stands, by what those in front of it say; how reading goes on from it, and what may be wrong with it.
use Rattle.std.specs.Prelude.{◌≡◌, ◌≢◌, ◌<◌, ◌≤◌, ℕ, ◌+◌, true, false, List, [], ◌∷◌, ◌++◌, length, take, drop, codes, Some, None}
use Rattle.std.specs.List.{All}
use Rattle.ppm_code.specs.Free.{IsFree}
use Rattle.ppm_code.specs.Tidy.{IsTidy}
use Rattle.ppm_code.specs.declared.code.CodeParts.{CodeParts}
use Rattle.ppm_listing_reader.specs.Correct.{IsListing}
use Rattle.ppm_saved.specs.declared.names.NamedLength.{NamedLength}
use Rattle.ppm_saved.specs.declared.run.Run.{Run}
use Rattle.ppm_saved_reader.specs.declared.lines.Sizes.{Sizes}
use Rattle.ppm_saved_reader.specs.declared.saved_error.Fault.{Fault}
use Rattle.ppm_saved_reader.specs.declared.saved_error.Fault.TheVariants as fault
use Rattle.ppm_saved_reader.specs.Lines.{first_line, version_in, sizes_in, array_in, count_in, run_in}
use Rattle.ppm_saved_reader.specs.Rules.{line_feeds, sizes_fit, is_twice, is_past, words_for, is_other_count, ends_with}

-- what may stand at a line
pub data Place : Type 0 where
  -- the version
  AtVersion : Place
  -- the sizes
  AtSizes : Place
  -- an array, or the code
  AtArrays : Sizes → List NamedLength → Place
  -- the count of words
  AtWords : Sizes → List NamedLength → CodeParts → Place
  -- a run of words, or nothing
  AtRuns : Sizes → List NamedLength → CodeParts → List Run → Place

-- an array by its line
abbrev pub array_of : (line : List ℕ × ℕ) → NamedLength
array_of line = record { name = line.0; len = line.1 }

-- the root of a code names none but so many arrays
abbrev pub NamesArrays : ℕ → CodeParts → Type 0
NamesArrays n code = All (λ number. number < n) code.arrays

-- from a place reading goes on past so many lines to another place
pub data Goes : Place → (text : List ℕ) → (lines : ℕ) → Place → (rest : List ℕ) → Type 0 where
  Version : {text rest line : List ℕ} → first_line version_in text ≡ Some (line, rest) → Goes AtVersion text 1 AtSizes rest
  Shaped : {text rest : List ℕ} {z : Sizes} → first_line sizes_in text ≡ Some (z, rest) → sizes_fit z ≡ true
      → Goes AtSizes text 1 (AtArrays z []) rest
  Array : {text rest : List ℕ} {z : Sizes} {arrays : List NamedLength} {line : List ℕ × ℕ} → first_line array_in text ≡ Some (line, rest)
      → is_twice arrays line.0 ≡ false → is_past arrays line.1 ≡ false
      → Goes (AtArrays z arrays) text 1 (AtArrays z (arrays ++ array_of line ∷ [])) rest
  Coded : {text rest : List ℕ} {z : Sizes} {arrays : List NamedLength} {bytes : ℕ} {code : CodeParts}
      → first_line array_in text ≡ None → first_line (count_in (codes "code")) text ≡ Some (bytes, rest) → bytes ≤ length rest
      → IsListing (take bytes rest) code → NamesArrays (length arrays) code → IsFree code → IsTidy code
      → Goes (AtArrays z arrays) text (1 + line_feeds (take bytes rest)) (AtWords z arrays code) (drop bytes rest)
  Counted : {text rest : List ℕ} {z : Sizes} {arrays : List NamedLength} {code : CodeParts} {count : ℕ}
      → first_line (count_in (codes "words")) text ≡ Some (count, rest) → count ≡ words_for z arrays → is_other_count count rest ≡ false
      → Goes (AtWords z arrays code) text 1 (AtRuns z arrays code []) rest
  Repeated : {text rest : List ℕ} {z : Sizes} {arrays : List NamedLength} {code : CodeParts} {rs : List Run} {word times : ℕ}
      → first_line run_in text ≡ Some ((Some word, times), rest) → ends_with rs word ≡ false
      → Goes (AtRuns z arrays code rs) text 1 (AtRuns z arrays code (rs ++ record { word = word; times = times } ∷ [])) rest

-- what is wrong with the line of an array after others: its name was there, or it is past the limits
pub data IsBadArray (arrays : List NamedLength) (line : List ℕ × ℕ) : Fault → Type 0 where
  Twice : is_twice arrays line.0 ≡ true → IsBadArray arrays line fault.NoSuchForm
  TooMany : is_twice arrays line.0 ≡ false → is_past arrays line.1 ≡ true → IsBadArray arrays line fault.OutOfRange

-- what is wrong with a code of so many bytes after arrays: fewer bytes follow, they are no listing for these arrays, or the code of one that is not
-- tidy or has a conflict
pub data IsBadCode (arrays : List NamedLength) (bytes : ℕ) (rest : List ℕ) : Fault → Type 0 where
  Short : length rest < bytes → IsBadCode arrays bytes rest fault.NoSuchForm
  NoListing : bytes ≤ length rest → ((code : CodeParts) → IsListing (take bytes rest) code → NamesArrays (length arrays) code → ⊥)
      → IsBadCode arrays bytes rest fault.BadListing
  Conflicting : {code : CodeParts} → bytes ≤ length rest → IsListing (take bytes rest) code → NamesArrays (length arrays) code
      → (IsFree code → IsTidy code → ⊥) → IsBadCode arrays bytes rest fault.BadCode

-- what is wrong at a place: the rule of the least number that its line breaks
pub data IsWrong : Place → (text : List ℕ) → Fault → Type 0 where
  NoVersion : {text : List ℕ} → first_line version_in text ≡ None → IsWrong AtVersion text fault.NoSuchForm
  NoSizes : {text : List ℕ} → first_line sizes_in text ≡ None → IsWrong AtSizes text fault.NoSuchForm
  NoFit : {text rest : List ℕ} {z : Sizes} → first_line sizes_in text ≡ Some (z, rest) → sizes_fit z ≡ false → IsWrong AtSizes text fault.OutOfRange
  NoArray : {text : List ℕ} {z : Sizes} {arrays : List NamedLength} → first_line array_in text ≡ None → first_line (count_in (codes "code")) text ≡ None
      → IsWrong (AtArrays z arrays) text fault.NoSuchForm
  BadArray : {text rest : List ℕ} {z : Sizes} {arrays : List NamedLength} {line : List ℕ × ℕ} {f : Fault}
      → first_line array_in text ≡ Some (line, rest) → IsBadArray arrays line f → IsWrong (AtArrays z arrays) text f
  BadCode : {text rest : List ℕ} {z : Sizes} {arrays : List NamedLength} {bytes : ℕ} {f : Fault} → first_line array_in text ≡ None
      → first_line (count_in (codes "code")) text ≡ Some (bytes, rest) → IsBadCode arrays bytes rest f → IsWrong (AtArrays z arrays) text f
  NoCount : {text : List ℕ} {z : Sizes} {arrays : List NamedLength} {code : CodeParts} → first_line (count_in (codes "words")) text ≡ None
      → IsWrong (AtWords z arrays code) text fault.NoSuchForm
  OtherCount : {text rest : List ℕ} {z : Sizes} {arrays : List NamedLength} {code : CodeParts} {count : ℕ}
      → first_line (count_in (codes "words")) text ≡ Some (count, rest) → (count ≡ words_for z arrays → is_other_count count rest ≡ true)
      → IsWrong (AtWords z arrays code) text fault.WrongCount
  NoRun : {text : List ℕ} {z : Sizes} {arrays : List NamedLength} {code : CodeParts} {rs : List Run} → text ≢ [] → first_line run_in text ≡ None
      → IsWrong (AtRuns z arrays code rs) text fault.NoSuchForm
  Same : {text rest : List ℕ} {z : Sizes} {arrays : List NamedLength} {code : CodeParts} {rs : List Run} {word times : ℕ}
      → first_line run_in text ≡ Some ((Some word, times), rest) → ends_with rs word ≡ true → IsWrong (AtRuns z arrays code rs) text fault.NoSuchForm
  NoWord : {text rest : List ℕ} {z : Sizes} {arrays : List NamedLength} {code : CodeParts} {rs : List Run} {times : ℕ}
      → first_line run_in text ≡ Some ((None, times), rest) → IsWrong (AtRuns z arrays code rs) text fault.OutOfRange

-- from a place reading leads past so many lines to another place
pub data LeadsTo : Place → (text : List ℕ) → (lines : ℕ) → Place → (rest : List ℕ) → Type 0 where
  Stays : {place : Place} {text : List ℕ} → LeadsTo place text 0 place text
  Then : {place mid last : Place} {n m : ℕ} {text between rest : List ℕ} → Goes place text n mid between → LeadsTo mid between m last rest
      → LeadsTo place text (n + m) last rest

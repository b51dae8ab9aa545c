-- No case is too long: a listing has a most, and so has each array, by its values.
use Rattle.std.proofs.Common.{◌≡◌, ℕ, ◌+◌, ◌*◌, ◌≤◌, ◌==◌, Bool, true, false, cond, List, [], ◌∷◌, ◌++◌, length, map, decimal, refl, arith}
use Rattle.std.proofs.Common.{length-append}
use Rattle.std.proofs.lemmas.List.{length-replicate}
use Rattle.std.specs.Prelude.{◌&&◌, nat_lt, ℤ, FitsSigned, replicate}
use Rattle.std.specs.Int.{w64}
use Rattle.std.specs.Fmt.{signed_decimal}
use Rattle.std.specs.List.{flat_map, list_all, AllByRecursion}
use Rattle.std.proofs.lemmas.Bool.{and_parts, eqb-false, ltb-true}
use Rattle.std.proofs.lemmas.Fmt.{length-decimal-le, length_signed_le}
use Rattle.std.proofs.lemmas.List.Sums.{sum-map, sum_by-cons}
use Rattle.ppm_words.specs.Limits.{word_limit}
use Rattle.ppm_words.specs.Names.{is_letter, is_name_byte}
use Rattle.ppm_words.specs.Inputs.{value_count, IsInput}
use Rattle.ppm_words.specs.declared.named_array.NamedArray.{NamedArray}
use Rattle.ppm_code.specs.declared.code.CodeParts.{CodeParts}
use Rattle.ppm_code.specs.Code.{IsCode}
use Rattle.ppm_listing.specs.Listing.{listing_of}
use Rattle.ppm_listing.specs.Correct.{NumbersFit}
use Rattle.ppm_listing_reader.proofs.NoFaultLemmas.{listing_short}
use Rattle.ppm_case.specs.declared.row.Row.{Row}
use Rattle.ppm_case.specs.Spelling.{is_array_name, is_name, array_word, array_text, array_line, spaced}
use Rattle.ppm_case.specs.Rules.{case_limit}
use Rattle.ppm_case.specs.Text.{rows_of, row_text, written, case_text}
use Rattle.ppm_case.proofs.TextLemmas.{RowFits, values_of, rows_fit, rows_length}

-- a value has at most 20 bytes
value_short : (z : ℤ) → FitsSigned w64 z → length (signed_decimal z) ≤ 20
value_short z fits = length_signed_le 19 z (omega (arith, fits.sfits)) (fits.sfits)

-- a row has at most 20 for each of its values, beside the space before it
row_short : (r : Row) → RowFits r → length (row_text r) + 1 ≤ 21 * r.times
row_short r fits = by (r.times == 1) refl
  where
    once : length (signed_decimal r.number) ≤ 20
    once = value_short r.number fits.0

    count : length (decimal r.times) ≤ 20
    count = length-decimal-le 20 r.times (omega arith) (omega (arith, fits.2)) fits.2

    by : (b : Bool) → (r.times == 1) ≡ b → length (cond b (signed_decimal r.number) (signed_decimal r.number ++ 42 ∷ decimal r.times)) + 1 ≤ 21 * r.times
    by true e = omega (arith, once, fits.1)
    by false e = omega (arith, once, count, fits.1, eqb-false r.times 1 e, length-append (signed_decimal r.number) (42 ∷ decimal r.times))

rows_short : (rs : List Row) → AllByRecursion RowFits rs → length (flat_map spaced (map row_text rs)) ≤ 21 * length (values_of rs)
rows_short [] h = omega arith
rows_short (r ∷ rs) h =
    omega (
      arith,
      row_short r h.0,
      rows_short rs h.1,
      length-append (spaced (row_text r)) (flat_map spaced (map row_text rs)),
      length-append (replicate r.times r.number) (values_of rs),
      length-replicate r.times r.number,
    )

-- the values of an array
values_short : (zs : List ℤ) → length zs ≤ word_limit → AllByRecursion (FitsSigned w64) zs
    → length (flat_map spaced (map row_text (rows_of zs))) ≤ 21 * length zs
values_short zs few fit = omega (arith, rows_short (rows_of zs) (rows_fit zs (omega (arith, few)) fit), rows_length zs)

-- a name has at most 32 bytes
name_short : (name : List ℕ) → is_array_name name ≡ true → length name ≤ 32
name_short name h = by name (and_parts (is_name name) _ h).0
  where
    by : (bytes : List ℕ) → is_name bytes ≡ true → length bytes ≤ 32
    by [] e = omega arith
    by (b ∷ bs) e =
        let rest = (and_parts (is_letter b) (list_all is_name_byte bs && nat_lt (length bs) 32) e).1 in
        let less = ltb-true (length bs) 32 (and_parts (list_all is_name_byte bs) (nat_lt (length bs) 32) rest).1 in
        omega (arith, less)

-- an array that can be written
pub record IsShortArray (a : NamedArray) : Type 0 where
  pub name : is_array_name a.name ≡ true
  pub few : length a.values ≤ word_limit
  pub values : AllByRecursion (FitsSigned w64) a.values

-- its line
array_short : (a : NamedArray) → IsShortArray a → length (array_line (written a)) ≤ 60 + 21 * length a.values
array_short a h =
    let rows : List (List ℕ) = map row_text (rows_of a.values) in
    let few = h.few in
    let len : List ℕ = decimal (length a.values) in
    omega (
      arith,
      name_short a.name h.name,
      values_short a.values h.few h.values,
      length-decimal-le 7 (length a.values) (omega arith) (omega (arith, few)) (omega (arith, few)),
      length-append (array_text (written a)) (10 ∷ []),
      length-append array_word (flat_map spaced (a.name ∷ len ∷ rows)),
      length-append (spaced a.name) (flat_map spaced (len ∷ rows)),
      length-append (spaced len) (flat_map spaced rows),
    )

-- the lines of arrays
arrays_short : (xs : List NamedArray) → AllByRecursion IsShortArray xs
    → length (flat_map (λ a. array_line (written a)) xs) ≤ 60 * length xs + 21 * value_count xs
arrays_short [] h = omega arith
arrays_short (x ∷ xs) h =
    let size : NamedArray → ℕ = λ b. length b.values in
    omega (
      arith,
      array_short x h.0,
      arrays_short xs h.1,
      length-append (array_line (written x)) (flat_map (λ a. array_line (written a)) xs),
      sum-map size (x ∷ xs),
      sum_by-cons size x xs,
      sum-map size xs,
    )

-- the text of a case
pub case_short : (code : CodeParts) (input : List NamedArray) → IsCode code → NumbersFit code → IsInput input → AllByRecursion IsShortArray input
    → length (case_text code input) ≤ case_limit
case_short code input is_code fits limits each =
    let lines : List ℕ = flat_map (λ a. array_line (written a)) input in
    omega (
      arith,
      length-append lines (listing_of code),
      listing_short code is_code fits,
      arrays_short input each,
      limits.arrays_bound,
      limits.values_bound,
    )

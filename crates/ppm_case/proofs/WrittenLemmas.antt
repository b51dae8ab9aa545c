-- What is written of a case is of it.
use Rattle.std.proofs.Common.{◌≡◌, ◌∙◌, ℕ, ◌+◌, ◌≤◌, true, false, nat_le, nat_lt, List, [], ◌∷◌, ◌++◌, length, map, decimal, refl, sym, ap, subst, arith, length-append, append_assoc}
use Rattle.std.specs.Prelude.{ℤ, FitsSigned}
use Rattle.std.specs.Int.{w64}
use Rattle.std.specs.List.{flat_map, AllByRecursion, All, IsDistinct}
use Rattle.std.specs.Str.{bytes_eq}
use Rattle.std.specs.Cmp.Derive.{both_true}
use Rattle.std.proofs.lemmas.Bool.{or_from, lt-leb, le-leb, le-ltb}
use Rattle.std.proofs.lemmas.List.Elements.{recursion_from_All}
use Rattle.std.proofs.lemmas.List.Sums.{sum-map, sum_by-append, sum_by-cons}
use Rattle.ppm_words.specs.Limits.{array_limit, word_limit}
use Rattle.ppm_words.specs.Inputs.{value_count, IsInput}
use Rattle.ppm_words.specs.declared.named_array.NamedArray.{NamedArray}
use Rattle.ppm_pieces.specs.Numbers.{value}
use Rattle.ppm_pieces.proofs.NumberLemmas.{numeral-decimal, value-decimal}
use Rattle.ppm_listing.specs.Listing.{listing_of}
use Rattle.ppm_case.specs.Spelling.{array_line, array_of, values_in, filled, is_array_name}
use Rattle.ppm_case.specs.Rules.{values_fit, is_named, is_past, Follows, AllFollow}
use Rattle.ppm_case.specs.Text.{rows_of, row_text, written}
use Rattle.ppm_case.specs.Correct.{WrittenCasesAreRead}
use Rattle.ppm_case.proofs.FormLemmas.{form_from}
use Rattle.ppm_case.proofs.ShortLemmas.{IsShortArray, case_short}
use Rattle.ppm_case.proofs.TextLemmas.{rows_form, rows_values, rows_within, rows_back, rows_length, rows_fit}

-- an array that can be written and read again, but for the others
pub record CanBeWritten (a : NamedArray) : Type 0 where
  pub name : is_array_name a.name ≡ true
  pub values : AllByRecursion (FitsSigned w64) a.values

module _ (a : NamedArray) (h : CanBeWritten a) (few : length a.values ≤ word_limit) where
  len_is : value (decimal (length a.values)) ≡ length a.values
  len_is = value-decimal (length a.values) (omega (arith, few))

  -- it is what is written
  array_back : array_of (written a) ≡ a
  array_back =
      let fit = rows_fit a.values (omega (arith, few)) h.values in
      let these : filled (value (decimal (length a.values))) (values_in (map row_text (rows_of a.values))) ≡ a.values =
      ap (λ (n : ℕ). filled n (values_in (map row_text (rows_of a.values)))) len_is
      ∙ ap (λ (l : List ℤ). filled (length a.values) l) (rows_values (rows_of a.values) fit)
      ∙ rows_back a.values in
      λ i. record { name = a.name; values = these i }

  -- it keeps the rules
  follows : (before : List NamedArray) → is_named before a.name ≡ false → is_past before (length a.values) ≡ false → Follows before (written a)
  follows before new within =
      let fit = rows_fit a.values (omega (arith, few)) h.values in
      record {
        form = form_from (written a) (record {
          name = h.name;
          len = numeral-decimal (length a.values) (omega (arith, few));
          values = rows_form (rows_of a.values) fit;
        });
        range = both_true (le-leb (value (decimal (length a.values))) word_limit (omega (arith, len_is, few)))
            (ap (λ (n : ℕ). values_fit n (map row_text (rows_of a.values))) len_is ∙ rows_within (length a.values) (rows_of a.values) fit (rows_length a.values));
        new = new;
        within = ap (λ (n : ℕ). is_past before n) len_is ∙ within;
      }

-- of arrays of which no two have one name, those in front do not have that of a later one
not_differs : (n : List ℕ) (done : List NamedArray) (a : NamedArray) (xs : List NamedArray)
    → AllByRecursion (λ m. bytes_eq n m ≡ false) (map (λ (b : NamedArray). b.name) (done ++ a ∷ xs)) → bytes_eq n a.name ≡ false
not_differs n [] a xs h = h.0
not_differs n (x ∷ done) a xs h = not_differs n done a xs h.1

not_named : (done : List NamedArray) (a : NamedArray) (xs : List NamedArray) → IsDistinct bytes_eq (map (λ (b : NamedArray). b.name) (done ++ a ∷ xs))
    → is_named done a.name ≡ false
unfolding IsDistinct
not_named [] a xs h = refl
not_named (x ∷ done) a xs h =
    or_from (bytes_eq x.name a.name) (is_named done a.name) (not_differs x.name done a xs h.0) (not_named done a xs h.1)

-- the values of arrays, of those in front and of the next
count_parts : (done : List NamedArray) (a : NamedArray) (xs : List NamedArray) → value_count done + length a.values ≤ value_count (done ++ a ∷ xs)
count_parts done a xs =
    let size : NamedArray → ℕ = λ b. length b.values in
    omega (arith, sum-map size (done ++ a ∷ xs), sum_by-append size done (a ∷ xs), sum-map size done, sum_by-cons size a xs)

-- all that can be written follow one another
all_follow : (done xs : List NamedArray) → AllByRecursion CanBeWritten xs → IsDistinct bytes_eq (map (λ (b : NamedArray). b.name) (done ++ xs))
    → IsInput (done ++ xs) → AllFollow done (map written xs)
all_follow done [] h differ limits = tt
all_follow done (a ∷ xs) h differ limits =
    let counted = count_parts done a xs in
    let few : length a.values ≤ word_limit = omega (arith, counted, limits.values_bound) in
    let within : is_past done (length a.values) ≡ false =
    or_from (nat_le array_limit (length done)) (nat_lt word_limit (value_count done + length a.values))
    (lt-leb array_limit (length done) (omega (arith, limits.arrays_bound, length-append done (a ∷ xs))))
    (le-ltb word_limit (value_count done + length a.values) (omega (arith, counted, limits.values_bound))) in
    let grouped : done ++ a ∷ xs ≡ (done ++ a ∷ []) ++ xs = sym (append_assoc done (a ∷ []) xs) in (
      follows a h.0 few done (not_named done a xs differ) within,
      subst (λ (b : NamedArray). AllFollow (done ++ b ∷ []) (map written xs)) (sym (array_back a h.0 few))
          (all_follow (done ++ a ∷ []) xs h.1
          (subst (λ (l : List NamedArray). IsDistinct bytes_eq (map (λ (b : NamedArray). b.name) l)) grouped differ)
          (subst (λ (l : List NamedArray). IsInput l) grouped limits)),
    )

-- their lines, and themselves
lines_of : (xs : List NamedArray) → flat_map (λ a. array_line (written a)) xs ≡ flat_map array_line (map written xs)
lines_of [] = refl
lines_of (x ∷ xs) = ap (λ (l : List ℕ). array_line (written x) ++ l) (lines_of xs)

all_back : (xs : List NamedArray) → AllByRecursion CanBeWritten xs → AllByRecursion (λ (a : NamedArray). length a.values ≤ word_limit) xs
    → xs ≡ map array_of (map written xs)
all_back [] h few = refl
all_back (x ∷ xs) h few = λ i. sym (array_back x h.0 few.0) i ∷ all_back xs h.1 few.1 i

each_few : (xs : List NamedArray) → value_count xs ≤ word_limit → AllByRecursion (λ (a : NamedArray). length a.values ≤ word_limit) xs
each_few [] h = tt
each_few (x ∷ xs) h =
    let size : NamedArray → ℕ = λ b. length b.values in
    let parts : value_count (x ∷ xs) ≡ length x.values + value_count xs =
    omega (arith, sum-map size (x ∷ xs), sum_by-cons size x xs, sum-map size xs) in
    (omega (arith, parts, h), each_few xs (omega (arith, parts, h)))

each_written : (xs : List NamedArray) → AllByRecursion (λ (a : NamedArray). All (FitsSigned w64) a.values) xs
    → AllByRecursion (λ (a : NamedArray). is_array_name a.name ≡ true) xs → AllByRecursion CanBeWritten xs
each_written [] h k = tt
each_written (x ∷ xs) h k =
    (record { name = k.0; values = recursion_from_All (FitsSigned w64) x.values h.0 }, each_written xs h.1 k.1)

-- and short enough
each_short : (xs : List NamedArray) → AllByRecursion CanBeWritten xs → AllByRecursion (λ (a : NamedArray). length a.values ≤ word_limit) xs
    → AllByRecursion IsShortArray xs
each_short [] h few = tt
each_short (x ∷ xs) h few = (record { name = h.0.name; few = few.0; values = h.0.values }, each_short xs h.1 few.1)

pub written_is_read : WrittenCasesAreRead
written_is_read code input h =
    let each = each_written input (recursion_from_All (λ (a : NamedArray). All (FitsSigned w64) a.values) input h.values)
    (recursion_from_All (λ (a : NamedArray). is_array_name a.name ≡ true) input h.names) in
    record {
      front = record {
        short = case_short code input h.code_is h.numbers h.input_is (each_short input each (each_few input h.input_is.values_bound));
        arrays = map written input;
        follow = all_follow [] input each h.differ h.input_is;
        rest = listing_of code;
        same = ap (λ (l : List ℕ). l ++ listing_of code) (lines_of input);
      };
      listed = record { code = h.code_is; fits = h.numbers; same = refl };
      arrays = all_back input each (each_few input h.input_is.values_bound);
      named = h.named;
    }

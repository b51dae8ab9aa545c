-- What the loop over the lines of arrays has read so far.
use Rattle.std.proofs.Common.{◌≡◌, ◌∙◌, ℕ, ◌+◌, ◌<◌, ◌≤◌, true, false, nat_le, nat_lt, List, [], ◌∷◌, ◌++◌, length, map, Some, None, refl, sym, ap, subst, arith, length-append, append_assoc}
use Rattle.std.specs.List.{flat_map, sum}
use Rattle.std.proofs.lemmas.Bool.{or_parts, leb-false, ltb-false}
use Rattle.std.proofs.lemmas.List.{append-nil}
use Rattle.std.proofs.lemmas.List.Sums.{sum-map, sum_by_push}
use Rattle.ppm_words.specs.Limits.{array_limit, word_limit}
use Rattle.ppm_words.specs.Inputs.{value_count, IsInput}
use Rattle.ppm_words.specs.declared.named_array.NamedArray.{NamedArray}
use Rattle.ppm_pieces.specs.Numbers.{value}
use Rattle.ppm_pieces.specs.Pieces.{halves_of}
use Rattle.ppm_case.specs.declared.case_error.InputFault.{InputFault}
use Rattle.ppm_case.specs.declared.case_error.InputFault.TheVariants as input
use Rattle.ppm_case.specs.Spelling.{Written, has_form, array_text, array_line, array_of, begins_array}
use Rattle.ppm_case.specs.Rules.{case_limit, is_past, Follows, AllFollow}
use Rattle.ppm_case.specs.Judged.{CanStand, IsNext, AreRead}
use Rattle.ppm_case.specs.Case.{Front}
use Rattle.ppm_case.specs.Faults.{IsBadLine, NoForm, HasBadArray}
use Rattle.ppm_case.proofs.OptionLemmas.{not_both}
use Rattle.ppm_case.proofs.WordLemmas.{halves_back}
use Rattle.ppm_case.proofs.FormLemmas.{line_before, line_of_text}
use Rattle.ppm_case.proofs.ValueLemmas.{array_length, range_parts}

-- the arrays that were read, with their words, and what is left
pub record SoFar (text : List ℕ) (arrays : List NamedArray) (words lines : ℕ) (left : List ℕ) : Type 0 where
  pub read : AreRead text arrays lines left
  pub limits : IsInput arrays
  pub words_are : words ≡ value_count arrays
  pub few : lines ≤ array_limit

pub no_arrays : (text : List ℕ) → SoFar text [] 0 0 text
no_arrays text = record {
  read = record { written = []; follow = tt; are = refl; same = refl; count = refl };
  limits = record { arrays_bound = omega arith; values_bound = omega arith };
  words_are = refl;
  few = omega arith;
}

-- one array more follows
pub follow_more : (before : List NamedArray) (xs : List Written) (a : Written) → AllFollow before xs → Follows (before ++ map array_of xs) a
    → AllFollow before (xs ++ a ∷ [])
follow_more before [] a h f = (subst (λ (l : List NamedArray). Follows l a) (append-nil before) f, tt)
follow_more before (x ∷ xs) a h f = (
  h.0,
  follow_more (before ++ array_of x ∷ []) xs a h.1
      (subst (λ (l : List NamedArray). Follows l a) (sym (append_assoc before (array_of x ∷ []) (map array_of xs))) f),
)

arrays_more : (xs : List Written) (a : Written) → map array_of (xs ++ a ∷ []) ≡ map array_of xs ++ array_of a ∷ []
arrays_more [] a = refl
arrays_more (x ∷ xs) a = ap (λ (l : List NamedArray). array_of x ∷ l) (arrays_more xs a)

lines_more : (xs : List Written) (a : Written) (rest : List ℕ) → flat_map array_line (xs ++ a ∷ []) ++ rest ≡ flat_map array_line xs ++ (array_line a ++ rest)
lines_more [] a rest = ap (λ (l : List ℕ). l ++ rest) (append-nil (array_line a))
lines_more (x ∷ xs) a rest =
    append_assoc (array_line x) (flat_map array_line (xs ++ a ∷ [])) rest ∙ ap (λ (l : List ℕ). array_line x ++ l) (lines_more xs a rest)
    ∙ sym (append_assoc (array_line x) (flat_map array_line xs) (array_line a ++ rest))

-- within the limits
past_parts : (xs : List NamedArray) (len : ℕ) → is_past xs len ≡ false → (length xs < array_limit) × (value_count xs + len ≤ word_limit)
past_parts xs len h =
    let parts = or_parts (nat_le array_limit (length xs)) (nat_lt word_limit (value_count xs + len)) h in
    (leb-false array_limit (length xs) parts.0, ltb-false word_limit (value_count xs + len) parts.1)

count_more : (xs : List NamedArray) (a : NamedArray) → value_count (xs ++ a ∷ []) ≡ value_count xs + length a.values
count_more xs a =
    sum-map (λ (b : NamedArray). length b.values) (xs ++ a ∷ []) ∙ sum_by_push (λ (b : NamedArray). length b.values) xs a
    ∙ ap (λ n. n + length a.values) (sym (sum-map (λ (b : NamedArray). length b.values) xs))

module _ {text : List ℕ} {arrays : List NamedArray} {words lines : ℕ} {left : List ℕ} (h : SoFar text arrays words lines left) where
  -- how many lines were read
  lines_are : lines ≡ length arrays
  lines_are = h.read.count ∙ sym (length_of h.read.written) ∙ ap (λ (l : List NamedArray). length l) (sym h.read.are)
    where
      length_of : (xs : List Written) → length (map array_of xs) ≡ length xs
      length_of [] = refl
      length_of (x ∷ xs) = omega (arith, length_of xs)

  abbrev pub front : length text ≤ case_limit → Front text
  front short = record { short = short; arrays = h.read.written; follow = h.read.follow; rest = left; same = h.read.same }

  -- a line is bad after the arrays of the front
  pub bad_of_front : (bad : InputFault) → IsBadLine arrays left bad → IsBadLine (map array_of h.read.written) left bad
  bad_of_front bad b = subst (λ (l : List NamedArray). IsBadLine l left bad) h.read.are b

  -- the text has it
  pub bad_line : length text ≤ case_limit → (bad : InputFault) → IsBadLine arrays left bad → HasBadArray text bad (lines + 1)
  bad_line short bad b = record { front = front short; is = bad_of_front bad b; there = ap (λ (n : ℕ). n + 1) h.read.count }

  -- a line without a line feed is bad
  pub unended_bad : begins_array left ≡ true → halves_of 10 left ≡ None → IsBadLine arrays left input.NoSuchForm
  unended_bad begins none =
      NoForm begins (λ a more form same. not_both (sym (ap (λ (t : List ℕ). halves_of 10 t) same) ∙ none) (line_of_text a more form))

  pub unended : length text ≤ case_limit → begins_array left ≡ true → halves_of 10 left ≡ None → HasBadArray text input.NoSuchForm (lines + 1)
  unended short begins none = bad_line short input.NoSuchForm (unended_bad begins none)

  -- one array more
  pub array_more : {line name numbers : List ℕ} {len : ℕ} (rest : List ℕ) (array : NamedArray) → halves_of 10 left ≡ Some (line, rest)
      → (n : IsNext arrays line name numbers len) → array ≡ array_of n.array → SoFar text (arrays ++ array ∷ []) (words + len) (lines + 1) rest
  array_more {line} {name} {numbers} {len} rest array cut n is = record {
    read = record {
      written = h.read.written ++ n.array ∷ [];
      follow = follow_more [] h.read.written n.array h.read.follow (subst (λ (l : List NamedArray). Follows l n.array) h.read.are n.follows);
      are = ap (λ (x : NamedArray). arrays ++ x ∷ []) is ∙ ap (λ (l : List NamedArray). l ++ array_of n.array ∷ []) h.read.are
          ∙ sym (arrays_more h.read.written n.array);
      same = h.read.same ∙ ap (λ (l : List ℕ). flat_map array_line h.read.written ++ l) left_is ∙ sym (lines_more h.read.written n.array rest);
      count = omega (arith, h.read.count, length-append h.read.written (n.array ∷ []));
    };
    limits = record {
      arrays_bound = omega (arith, within.0, length-append arrays (array ∷ []));
      values_bound = omega (arith, within.1, counted, long, n.of_it.len_is);
    };
    words_are = omega (arith, h.words_are, counted, long, n.of_it.len_is);
    few = omega (arith, within.0, lines_are);
  }
    where
      left_is : left ≡ array_line n.array ++ rest
      left_is = halves_back 10 left line rest cut ∙ ap (λ (l : List ℕ). l ++ 10 ∷ rest) n.same ∙ sym (line_before n.array rest)

      within : (length arrays < array_limit) × (value_count arrays + value n.array.len ≤ word_limit)
      within = past_parts arrays (value n.array.len) n.follows.within

      counted : value_count (arrays ++ array ∷ []) ≡ value_count arrays + length array.values
      counted = count_more arrays array

      long : length array.values ≡ value n.array.len
      long = ap (λ (x : NamedArray). length x.values) is ∙ array_length n.array (range_parts n.array n.follows.range).1

-- a next array can stand
pub can_stand : {arrays : List NamedArray} {line name numbers : List ℕ} {len : ℕ} → IsNext arrays line name numbers len → CanStand name numbers len
can_stand n = record { array = n.array; form = n.follows.form; range = n.follows.range; of_it = n.of_it }

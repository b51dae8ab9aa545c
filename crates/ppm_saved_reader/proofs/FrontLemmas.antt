-- A line of a word, read byte by byte.
use Rattle.std.proofs.Common.{◌≡◌, ◌≢◌, ◌∙◌, ◌⊎◌, inl, inr, ℕ, ◌+◌, ◌-◌, ◌*◌, ◌^◌, ◌<◌, ◌≤◌, true, nat_lt, List, [], ◌∷◌, ◌++◌, length, get_or, take, drop, take_all, le_refl, Option, Some, None, refl, sym, ap, arith, append_assoc}
use Rattle.std.specs.List.{list_all}
use Rattle.std.specs.Cmp.Derive.{both_true}
use Rattle.std.proofs.lemmas.Bool.{and_parts, cond-true, lt-ltb, ne_eqb}
use Rattle.ppm_pieces.specs.Numbers.{is_digit, is_numeral, value_from}
use Rattle.ppm_pieces.specs.Pieces.{halves_of}
use Rattle.ppm_saved_reader.specs.Lines.{first_line, word_in, run_between, run_in}
use Rattle.ppm_saved_reader.proofs.OptionLemmas.{not_both}
use Rattle.ppm_saved_reader.proofs.LineLemmas.{halves_at, halves_off, first_line_some}

-- a digit more
value_more : (n : ℕ) (ds : List ℕ) (b : ℕ) → value_from n (ds ++ b ∷ []) ≡ value_from n ds * 10 + (b - 48)
value_more n [] b = refl
value_more n (d ∷ ds) b = value_more (n * 10 + (d - 48)) ds b

digits_more : (ds : List ℕ) (b : ℕ) → list_all is_digit ds ≡ true → is_digit b ≡ true → list_all is_digit (ds ++ b ∷ []) ≡ true
digits_more [] b h k = both_true k refl
digits_more (d ∷ ds) b h k =
    let parts = and_parts (is_digit d) (list_all is_digit ds) h in
    both_true parts.0 (digits_more ds b parts.1 k)

first_stays : (ds : List ℕ) (b : ℕ) → 48 < get_or ds 0 0 → 48 < get_or (ds ++ b ∷ []) 0 0
first_stays [] b h = absurd (omega (arith, h))
first_stays (d ∷ ds) b h = h

-- digits that do not begin with a zero are a numeral
numeral_of : (ds : List ℕ) → list_all is_digit ds ≡ true → 48 < get_or ds 0 0 → is_numeral ds ≡ true
numeral_of [] h lead = absurd (omega (arith, lead))
numeral_of (d ∷ ds) h lead = rw (ne_eqb d 48 (λ e. omega (arith, lead, e))) h

-- the digits in front of what is left, with their value
pub record IsFront (text : List ℕ) (word : ℕ) (left : List ℕ) : Type 0 where
  pub front : List ℕ
  pub whole : text ≡ front ++ left
  pub digits : list_all is_digit front ≡ true
  pub value : value_from 0 front ≡ word
  pub lead : (front ≡ []) ⊎ (48 < get_or front 0 0)

pub no_front : (text : List ℕ) → IsFront text 0 text
no_front text = record { front = []; whole = refl; digits = refl; value = refl; lead = inl refl }

-- what is left, by its first byte and those after it
by_first : (left : List ℕ) → 1 ≤ length left → left ≡ get_or left 0 0 ∷ take (length left - 1) (drop 1 left)
by_first [] h = absurd (omega (arith, h))
by_first (b ∷ bs) h =
    let one : length (b ∷ bs) - 1 ≡ length bs = omega arith in
    sym (ap (λ (l : List ℕ). b ∷ l) (ap (λ k. take k bs) one ∙ take_all (length bs) bs (le_refl (length bs))))

module _ {text : List ℕ} {word : ℕ} {left : List ℕ} (f : IsFront text word left) (some : 1 ≤ length left) where
  abbrev first : ℕ
  first = get_or left 0 0

  abbrev behind : List ℕ
  behind = take (length left - 1) (drop 1 left)

  -- a digit more, but no zero in front
  pub front_more : is_digit first ≡ true → word * 10 + (first - 48) ≢ 0 → IsFront text (word * 10 + (first - 48)) behind
  front_more digit other = record {
    front = f.front ++ first ∷ [];
    whole = f.whole ∙ ap (λ (l : List ℕ). f.front ++ l) (by_first left some) ∙ sym (append_assoc f.front (first ∷ []) behind);
    digits = digits_more f.front first f.digits digit;
    value = value_more 0 f.front first ∙ ap (λ n. n * 10 + (first - 48)) f.value;
    lead = by f.lead;
  }
    where
      alone : (ds : List ℕ) → ds ≡ [] → value_from 0 ds ≡ word → 48 < get_or (ds ++ first ∷ []) 0 0
      alone [] e v = omega (arith, other, v)
      alone (d ∷ ds) e v = absurd (omega (arith, ap (λ (l : List ℕ). length l) e))

      by : (f.front ≡ []) ⊎ (48 < get_or f.front 0 0) → (f.front ++ first ∷ [] ≡ []) ⊎ (48 < get_or (f.front ++ first ∷ []) 0 0)
      by (inl e) = inr (alone f.front e f.value)
      by (inr h) = inr (first_stays f.front first h)

  -- after a line feed the line was a word
  pub front_ends : first ≡ 10 → 0 < word → word < 2 ^ 64 → first_line run_in text ≡ Some ((Some word, 1), behind)
  front_ends feed large small =
      first_line_some run_in text f.front behind (Some word, 1) cut (ap (run_between f.front) (halves_off is_digit 42 refl f.front f.digits) ∙ says)
    where
      cut : halves_of 10 text ≡ Some (f.front, behind)
      cut =
          ap (halves_of 10) (f.whole ∙ ap (λ (l : List ℕ). f.front ++ l) (by_first left some) ∙ ap (λ n. f.front ++ n ∷ behind) feed)
          ∙ halves_at is_digit 10 refl f.front behind f.digits

      begins : (f.front ≡ []) ⊎ (48 < get_or f.front 0 0) → 48 < get_or f.front 0 0
      begins (inl e) = absurd (omega (arith, large, f.value, ap (λ (l : List ℕ). value_from 0 l) e))
      begins (inr h) = h

      word_is : word_in f.front ≡ Some word
      word_is =
          cond-true (nat_lt (value_from 0 f.front) (2 ^ 64)) (Some (value_from 0 f.front)) None (lt-ltb (value_from 0 f.front) (2 ^ 64) (omega (arith, f.value, small)))
          ∙ ap (λ (n : ℕ). Some n) f.value

      says : run_between f.front None ≡ Some (Some word, 1)
      says =
          cond-true (is_numeral f.front) (Some (word_in f.front, 1)) None (numeral_of f.front f.digits (begins f.lead))
          ∙ ap (λ (w : Option ℕ). Some (w, 1)) word_is

-- a line that says no run is none
pub no_run : (t l r : List ℕ) → first_line run_in t ≡ None → halves_of 10 t ≡ Some (l, r) → run_in l ≡ None
no_run t l r none cut = by (run_in l) refl
  where
    by : (o : Option (Option ℕ × ℕ)) → run_in l ≡ o → o ≡ None
    by None e = refl
    by (Some said) e = absurd (not_both none (first_line_some run_in t l r said cut e))

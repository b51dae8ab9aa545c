-- Numbers in decimal, each with its one spelling.
use Rattle.std.proofs.Common.{◌≡◌, ◌∙◌, ◌⊎◌, inl, inr, ℕ, zero, suc, ◌+◌, ◌-◌, ◌*◌, ◌^◌, ◌<◌, ◌≤◌, ◌==◌, min, Bool, true, false, ◌&&◌, cond}
use Rattle.std.proofs.Common.{nat_le, List, [], ◌∷◌, length, get_or, take, drop, take_all, le_refl, decimal, refl, ap, arith}
use Rattle.std.proofs.Common.{le-leb, leb-true, leb-false, eqb-true, ne_eqb}
use Rattle.std.specs.List.{list_all}
use Rattle.std.specs.Int.{IsInRange}
use Rattle.std.specs.Cmp.Derive.{both_true}
use Rattle.std.proofs.lemmas.Bool.{both_ways}
use Rattle.std.proofs.lemmas.Fmt.{digits_decimal, digits_value-decimal, first_decimal, decimal-digits_value, decimal_digit}
use Rattle.std.proofs.lemmas.Str.Parse.{IsDigitsTest, IsNumeralModel, numerals_by_fold}
use Rattle.ppm_pieces.specs.Numbers.{is_empty, is_digit, is_numeral, value_from, value, value_limit}

-- a number only grows by further digits
pub value_grows : (n : ℕ) (ds : List ℕ) → n ≤ value_from n ds
value_grows n [] = omega arith
value_grows n (d ∷ ds) = omega (arith, value_grows (n * 10 + (d - 48)) ds)

-- numbers that are one, or both past the limit, are cut off alike
cut_off : (m n : ℕ) (ds : List ℕ) → (m ≡ n) ⊎ ((value_limit ≤ m) × (value_limit ≤ n))
    → min (value_from m ds) value_limit ≡ min (value_from n ds) value_limit
cut_off m n ds (inl e) = ap (λ k. min (value_from k ds) value_limit) e
cut_off m n ds (inr h) = omega (arith, h.0, h.1, value_grows m ds, value_grows n ds)

-- a number cut off on the way is cut off as at the end
pub cut_off_before : (n d : ℕ) (ds : List ℕ)
    → min (value_from (min (min (n * 10) value_limit + (d - 48)) value_limit) ds) value_limit ≡ min (value_from (n * 10 + (d - 48)) ds) value_limit
cut_off_before n d ds = go (nat_le (n * 10 + (d - 48)) value_limit) refl
  where
    go : (small : Bool) → nat_le (n * 10 + (d - 48)) value_limit ≡ small
        → min (value_from (min (min (n * 10) value_limit + (d - 48)) value_limit) ds) value_limit ≡ min (value_from (n * 10 + (d - 48)) ds) value_limit
    go true e = cut_off (min (min (n * 10) value_limit + (d - 48)) value_limit) (n * 10 + (d - 48)) ds
        (inl (omega (arith, leb-true (n * 10 + (d - 48)) value_limit e)))
    go false e =
        let large = leb-false (n * 10 + (d - 48)) value_limit e in
        cut_off (min (min (n * 10) value_limit + (d - 48)) value_limit) (n * 10 + (d - 48)) ds (inr (omega (arith, large), omega (arith, large)))

-- a loop over digits, by the first and those after it
pub value_step : (n : ℕ) (ds : List ℕ) → 1 ≤ length ds
    → min (value_from (min (min (n * 10) value_limit + (get_or ds 0 0 - 48)) value_limit) (take (length ds - 1) (drop 1 ds))) value_limit
    ≡ min (value_from n ds) value_limit
value_step n [] h = absurd (omega (arith, h))
value_step n (d ∷ ds) h =
    let one : length (d ∷ ds) - 1 ≡ length ds = omega arith in
    let rest : take (length (d ∷ ds) - 1) ds ≡ ds = ap (λ k. take k ds) one ∙ take_all (length ds) ds (le_refl (length ds)) in
    ap (λ l. min (value_from (min (min (n * 10) value_limit + (d - 48)) value_limit) l) value_limit) rest ∙ cut_off_before n d ds

-- both tests are passed
pub both_parts : (a b : Bool) → (a && b) ≡ true → (a ≡ true) × (b ≡ true)
both_parts true b h = (refl, h)
both_parts false b h = absurd (both_ways false refl h)

-- a digit is in its range
range_of_digit : (d : ℕ) → is_digit d ≡ true → IsInRange 48 57 d
range_of_digit d h = let k = both_parts (nat_le 48 d) (nat_le d 57) h in (leb-true 48 d k.0, leb-true d 57 k.1)

digit_of_range : (d : ℕ) → IsInRange 48 57 d → is_digit d ≡ true
digit_of_range d h = both_true (le-leb 48 d h.0) (le-leb d 57 h.1)

tells : IsDigitsTest (λ ds. list_all is_digit ds ≡ true)
tells = record {
  empty = refl;
  parts = λ c cs e. let k = both_parts (is_digit c) (list_all is_digit cs) e in (range_of_digit c k.0, k.1);
  more = λ c cs k e. both_true (digit_of_range c k) e;
}

own : IsNumeralModel (λ ds. list_all is_digit ds ≡ true) (value_from 0)
own = numerals_by_fold (λ ds. list_all is_digit ds ≡ true) tells value_from (record { empty = λ n. refl; more = λ n c cs k. refl })

-- a numeral is of digits, one at least, and is 0 where it begins with a zero
numeral_some : (ds : List ℕ) → is_numeral ds ≡ true → 0 < length ds
numeral_some [] h = absurd (both_ways false refl h)
numeral_some (d ∷ ds) h = omega arith

pub numeral_parts : (ds : List ℕ) → is_numeral ds ≡ true → (list_all is_digit ds ≡ true) × (get_or ds 0 0 ≡ 48 → length ds ≡ 1)
numeral_parts [] h = absurd (both_ways false refl h)
numeral_parts (d ∷ ds) h = go (d == 48) refl h
  where
    alone : (es : List ℕ) → is_empty es ≡ true → d ≡ 48 → (list_all is_digit (d ∷ es) ≡ true) × (get_or (d ∷ es) 0 0 ≡ 48 → length (d ∷ es) ≡ 1)
    alone [] e z = (rw z refl, λ z. refl)
    alone (x ∷ es) e z = absurd (both_ways false refl e)

    go : (zero_first : Bool) → (d == 48) ≡ zero_first → cond zero_first (is_empty ds) (list_all is_digit (d ∷ ds)) ≡ true
        → (list_all is_digit (d ∷ ds) ≡ true) × (get_or (d ∷ ds) 0 0 ≡ 48 → length (d ∷ ds) ≡ 1)
    go true e k = alone ds k (eqb-true d 48 e)
    go false e k = (k, λ z. absurd (both_ways (d == 48) e (rw z refl)))

-- digits that do not begin with a zero are a numeral
numeral_from : (ds : List ℕ) → list_all is_digit ds ≡ true → 48 < get_or ds 0 0 → is_numeral ds ≡ true
numeral_from [] h lead = absurd (omega (arith, lead))
numeral_from (d ∷ ds) h lead = rw (ne_eqb d 48 (λ e. omega (arith, lead, e))) h

-- a numeral is what is written of its value
pub decimal-value : (ds : List ℕ) → is_numeral ds ≡ true → value ds < value_limit → decimal (value ds) ≡ ds
decimal-value ds h small =
    let k = numeral_parts ds h in
    let same : value ds ≡ value_from 0 ds = omega (arith, small) in
    ap decimal same ∙ decimal-digits_value own ds k.0 (numeral_some ds h) k.1 (omega (arith, small))

-- and back
pub numeral-decimal : (n : ℕ) → n < 2 ^ 64 → is_numeral (decimal n) ≡ true
numeral-decimal zero h = rw (decimal_digit 0 (omega arith)) refl
numeral-decimal (suc n) h = numeral_from (decimal (suc n)) (digits_decimal own (suc n) h) (first_decimal (suc n) (omega arith) h)

pub value-decimal : (n : ℕ) → n < 2 ^ 64 → value (decimal n) ≡ n
value-decimal n h = omega (arith, digits_value-decimal own n h)

-- the first digit is one
pub first_digit : (d : ℕ) (ds : List ℕ) → is_numeral (d ∷ ds) ≡ true → is_digit d ≡ true
first_digit d ds h = (both_parts (is_digit d) (list_all is_digit ds) (numeral_parts (d ∷ ds) h).0).0

pub digit_bounds : (d : ℕ) → is_digit d ≡ true → (48 ≤ d) × (d ≤ 57)
digit_bounds d h = range_of_digit d h

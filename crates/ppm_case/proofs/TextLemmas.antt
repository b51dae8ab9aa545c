-- What is written of values is read as they are.
use Rattle.std.proofs.Common.{◌≡◌, ◌∙◌, ℕ, zero, suc, ◌+◌, ◌-◌, ◌^◌, ◌<◌, ◌≤◌, ◌==◌, Bool, true, false, not, ◌&&◌, ◌||◌, nat_le, nat_lt, cond, is_some, List, [], ◌∷◌, ◌++◌, length, map, get_or, replicate, decimal, Option, Some, None, refl, sym, ap, subst, arith, length-append, append_assoc}
use Rattle.std.proofs.Common.{eqb-true, ne_eqb}
use Rattle.std.specs.Prelude.{ℤ, pos, negsuc, FitsSigned}
use Rattle.std.specs.Int.{w64}
use Rattle.std.specs.Fmt.{signed_decimal}
use Rattle.std.specs.List.{list_all, flat_map, AllByRecursion}
use Rattle.std.specs.Option.{option_map}
use Rattle.std.specs.Cmp.Derive.{both_true}
use Rattle.std.proofs.lemmas.Bool.{both_ways, cond-true, cond-false, lt-ltb, le-leb}
use Rattle.std.proofs.lemmas.List.{length-replicate}
use Rattle.ppm_pieces.specs.Numbers.{is_digit, is_numeral, value}
use Rattle.ppm_pieces.specs.Pieces.{halves_of}
use Rattle.ppm_pieces.proofs.NumberLemmas.{numeral_parts, numeral-decimal, value-decimal, first_digit, digit_bounds}
use Rattle.ppm_case.specs.declared.run.Run.{Run}
use Rattle.ppm_case.specs.declared.row.Row.{Row}
use Rattle.ppm_case.specs.Spelling.{from_zero, below_zero, negative_in, natural_in, number_in, run_of, run_between, run_in, run_values, values_in, filled}
use Rattle.ppm_case.specs.Rules.{run_fits, said_fits, times_of, values_fit}
use Rattle.ppm_case.specs.Text.{row, same_value, in_front, rows_of, row_text}
use Rattle.ppm_case.proofs.OptionLemmas.{or_left, or_right}
use Rattle.ppm_case.proofs.WordLemmas.{halves_at, halves_off, all_wider}
use Rattle.ppm_case.proofs.RowLemmas.{same_is}

-- digits do not begin with a minus
number_natural : (ds : List ℕ) → is_numeral ds ≡ true → number_in ds ≡ natural_in ds
number_natural [] h = absurd (both_ways false refl h)
number_natural (d ∷ ds) h =
    cond-false (d == 45) (negative_in ds) (natural_in (d ∷ ds)) (ne_eqb d 45 (λ e. omega (arith, (digit_bounds d (first_digit d ds h)).0, e)))

-- what is written of a number is read as it
number_back : (z : ℤ) → FitsSigned w64 z → number_in (signed_decimal z) ≡ Some (Some z)
number_back (pos n) h =
    let small : n < 2 ^ 64 = omega (arith, h) in
    let numeral = numeral-decimal n small in
    number_natural (decimal n) numeral
    ∙ cond-true (is_numeral (decimal n)) (Some (from_zero (value (decimal n)))) None numeral
    ∙ ap (λ (m : ℕ). Some (from_zero m)) (value-decimal n small)
    ∙ ap (λ (o : Option ℤ). Some o) (cond-true (nat_lt n (2 ^ 63)) (Some (pos n)) None (lt-ltb n (2 ^ 63) (omega (arith, h))))
number_back (negsuc n) h =
    let small : suc n < 2 ^ 64 = omega (arith, h) in
    let is = value-decimal (suc n) small in
    let digits = decimal (suc n) in
    let some : not (value digits == 0) ≡ true = ap (λ (b : Bool). not b) (ne_eqb (value digits) 0 (λ e. omega (arith, is, e))) in
    cond-true (is_numeral digits && not (value digits == 0)) (Some (below_zero (value digits))) None (both_true (numeral-decimal (suc n) small) some)
    ∙ ap (λ (m : ℕ). Some (below_zero m)) is
    ∙ ap (λ (o : Option ℤ). Some o)
    (cond-true (nat_le (suc n) (2 ^ 63)) (Some (negsuc (suc n - 1))) None (le-leb (suc n) (2 ^ 63) (omega (arith, h)))
    ∙ ap (λ (m : ℕ). Some (negsuc m)) (omega arith))

-- the bytes of a number
abbrev is_number_byte : ℕ → Bool
is_number_byte b = is_digit b || b == 45

decimal_bytes : (n : ℕ) → n < 2 ^ 64 → list_all is_number_byte (decimal n) ≡ true
decimal_bytes n h = all_wider is_digit is_number_byte (λ b t. or_left (is_digit b) (b == 45) t) (decimal n) (numeral_parts (decimal n) (numeral-decimal n h)).0

number_bytes : (z : ℤ) → FitsSigned w64 z → list_all is_number_byte (signed_decimal z) ≡ true
number_bytes (pos n) h = decimal_bytes n (omega (arith, h))
number_bytes (negsuc n) h = both_true refl (decimal_bytes (suc n) (omega (arith, h)))

-- a row that can be written
abbrev pub RowFits : Row → Type 0
RowFits r = FitsSigned w64 r.number × (1 ≤ r.times) × (r.times < 2 ^ 64)

-- the run of a row
abbrev pub run_of_row : Row → Run
run_of_row r = run_of r.times (Some r.number)

-- what is written of a row is read as it
pub row_back : (r : Row) → RowFits r → run_in (row_text r) ≡ Some (run_of_row r)
row_back r h = by (r.times == 1) refl
  where
    z : ℤ
    z = r.number

    says : number_in (signed_decimal z) ≡ Some (Some z)
    says = number_back z h.0

    once : r.times ≡ 1 → run_in (signed_decimal z) ≡ Some (run_of_row r)
    once e =
        ap (λ (o : Option (List ℕ × List ℕ)). run_between (signed_decimal z) o) (halves_off is_number_byte 42 refl (signed_decimal z) (number_bytes z h.0))
        ∙ ap (λ (o : Option (Option ℤ)). option_map (run_of 1) o) says ∙ ap (λ (n : ℕ). Some (run_of n (Some z))) (sym e)

    often : run_in (signed_decimal z ++ 42 ∷ decimal r.times) ≡ Some (run_of_row r)
    often =
        ap (λ (o : Option (List ℕ × List ℕ)). run_between (signed_decimal z ++ 42 ∷ decimal r.times) o)
        (halves_at is_number_byte 42 refl (signed_decimal z) (decimal r.times) (number_bytes z h.0))
        ∙ cond-true (is_numeral (decimal r.times)) (option_map (run_of (value (decimal r.times))) (number_in (signed_decimal z))) None
        (numeral-decimal r.times h.2)
        ∙ ap (λ (n : ℕ). option_map (run_of n) (number_in (signed_decimal z))) (value-decimal r.times h.2)
        ∙ ap (λ (o : Option (Option ℤ)). option_map (run_of r.times) o) says

    by : (b : Bool) → (r.times == 1) ≡ b → run_in (cond b (signed_decimal z) (signed_decimal z ++ 42 ∷ decimal r.times)) ≡ Some (run_of_row r)
    by true e = once (eqb-true r.times 1 e)
    by false e = often

-- the values of rows
abbrev pub values_of : List Row → List ℤ
values_of rs = flat_map (λ r. replicate r.times r.number) rs

module _ where
  -- rows that are written are read
  pub rows_form : (rs : List Row) → AllByRecursion RowFits rs → list_all (λ w. is_some (run_in w)) (map row_text rs) ≡ true
  rows_form [] h = refl
  rows_form (r ∷ rs) h = both_true (ap (λ (o : Option Run). is_some o) (row_back r h.0)) (rows_form rs h.1)

  pub rows_values : (rs : List Row) → AllByRecursion RowFits rs → values_in (map row_text rs) ≡ values_of rs
  rows_values [] h = refl
  rows_values (r ∷ rs) h =
      ap (λ (o : Option Run). run_values o ++ values_in (map row_text rs)) (row_back r h.0)
      ∙ ap (λ (l : List ℤ). replicate r.times r.number ++ l) (rows_values rs h.1)

  pub rows_within : (room : ℕ) (rs : List Row) → AllByRecursion RowFits rs → length (values_of rs) ≤ room → values_fit room (map row_text rs) ≡ true
  rows_within room [] h k = refl
  rows_within room (r ∷ rs) h k =
      let long : length (values_of (r ∷ rs)) ≡ r.times + length (values_of rs) =
      omega (arith, length-append (replicate r.times r.number) (values_of rs), length-replicate r.times r.number) in
      ap (λ (o : Option Run). said_fits room o && values_fit (room - times_of o) (map row_text rs)) (row_back r h.0)
      ∙ both_true (both_true refl (both_true (le-leb 1 r.times h.0.1) (le-leb r.times room (omega (arith, long, k)))))
      (rows_within (room - r.times) rs h.1 (omega (arith, long, k)))

-- one value more in front of those that zeros fill up
filled_more : (z : ℤ) (n : ℕ) (vs : List ℤ) → filled (suc n) (z ∷ vs) ≡ z ∷ filled n vs
filled_more z n vs =
    ap (λ (k : ℕ). z ∷ (vs ++ replicate k (pos 0))) (omega arith)

-- the rows of values have these, but for the zeros at their end
in_front_values : (z : ℤ) (n : ℕ) (rs : List Row) → filled (suc n) (values_of (in_front z rs)) ≡ z ∷ filled n (values_of rs)
in_front_values z n [] = by (same_value z (pos 0)) refl
  where
    by : (b : Bool) → same_value z (pos 0) ≡ b → filled (suc n) (values_of (cond b [] (row z 1 ∷ []))) ≡ z ∷ filled n []
    by true e =
        let more : suc n - 0 ≡ suc n = omega arith in
        let same : n ≡ n - 0 = omega arith in
        ap (λ (k : ℕ). replicate k (pos 0)) more ∙ ap (λ (y : ℤ). y ∷ replicate n (pos 0)) (sym (same_is z (pos 0) e))
        ∙ ap (λ (k : ℕ). z ∷ replicate k (pos 0)) same
    by false e = filled_more z n []
in_front_values z n (r ∷ rs) = by (same_value r.number z) refl
  where
    by : (b : Bool) → same_value r.number z ≡ b
        → filled (suc n) (values_of (cond b (row z (1 + r.times) ∷ rs) (row z 1 ∷ r ∷ rs))) ≡ z ∷ filled n (values_of (r ∷ rs))
    by true e =
        let more : 1 + r.times ≡ suc r.times = omega arith in
        ap (λ (k : ℕ). filled (suc n) (replicate k z ++ values_of rs)) more
        ∙ filled_more z n (replicate r.times z ++ values_of rs)
        ∙ ap (λ (y : ℤ). z ∷ filled n (replicate r.times y ++ values_of rs)) (sym (same_is r.number z e))
    by false e = filled_more z n (values_of (r ∷ rs))

pub rows_back : (zs : List ℤ) → filled (length zs) (values_of (rows_of zs)) ≡ zs
rows_back [] = refl
rows_back (z ∷ zs) = in_front_values z (length zs) (rows_of zs) ∙ ap (λ (l : List ℤ). z ∷ l) (rows_back zs)

-- and so they are no more
pub rows_length : (zs : List ℤ) → length (values_of (rows_of zs)) ≤ length zs
rows_length zs =
    let vs = values_of (rows_of zs) in
    omega (arith, ap (λ (l : List ℤ). length l) (rows_back zs), length-append vs (replicate (length zs - length vs) (pos 0)))

-- each row has a value at least, and one of these
abbrev RowIs : Row → Type 0
RowIs r = FitsSigned w64 r.number × (1 ≤ r.times)

in_front_is : (z : ℤ) → FitsSigned w64 z → (rs : List Row) → AllByRecursion RowIs rs → AllByRecursion RowIs (in_front z rs)
in_front_is z h [] k = by (same_value z (pos 0))
  where
    by : (b : Bool) → AllByRecursion RowIs (cond b [] (row z 1 ∷ []))
    by true = tt
    by false = ((h, omega arith), tt)
in_front_is z h (r ∷ rs) k = by (same_value r.number z)
  where
    by : (b : Bool) → AllByRecursion RowIs (cond b (row z (1 + r.times) ∷ rs) (row z 1 ∷ r ∷ rs))
    by true = ((h, omega arith), k.1)
    by false = ((h, omega arith), k)

rows_are : (zs : List ℤ) → AllByRecursion (FitsSigned w64) zs → AllByRecursion RowIs (rows_of zs)
rows_are [] h = tt
rows_are (z ∷ zs) h = in_front_is z h.0 (rows_of zs) (rows_are zs h.1)

few_times : (most : ℕ) → most < 2 ^ 64 → (rs : List Row) → length (values_of rs) ≤ most → AllByRecursion RowIs rs → AllByRecursion RowFits rs
few_times most small [] less h = tt
few_times most small (r ∷ rs) less h =
    let long : length (values_of (r ∷ rs)) ≡ r.times + length (values_of rs) =
    omega (arith, length-append (replicate r.times r.number) (values_of rs), length-replicate r.times r.number) in
    ((h.0.0, h.0.1, omega (arith, long, less, small)), few_times most small rs (omega (arith, long, less)) h.1)

pub rows_fit : (zs : List ℤ) → length zs < 2 ^ 64 → AllByRecursion (FitsSigned w64) zs → AllByRecursion RowFits (rows_of zs)
rows_fit zs small h = few_times (length zs) small (rows_of zs) (rows_length zs) (rows_are zs h)

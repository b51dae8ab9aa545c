-- A word says a number exactly where it is what is written of it.
use Rattle.std.proofs.Common.{◌≡◌, ◌∙◌, ℕ, zero, suc, ◌-◌, ◌^◌, ◌<◌, ◌≤◌, ◌==◌, min, Bool, true, false, not, ◌&&◌, ◌||◌, cond, nat_lt, nat_le, ℤ, pos, negsuc, List, [], ◌∷◌, map, decimal, Option, Some, None, refl, sym, ap, ap₂, subst, arith, eqb-true, ne_eqb}
use Rattle.std.specs.Prelude.{FitsSigned}
use Rattle.std.specs.Int.{w64}
use Rattle.std.specs.Fmt.{signed_decimal}
use Rattle.std.specs.List.{list_all, AllByRecursion}
use Rattle.std.specs.Cmp.Derive.{both_true}
use Rattle.std.proofs.lemmas.Bool.{both_ways, and_parts, cond-true, cond-false, ltb-true, ltb-false, leb-true, lt-ltb, le-leb}
use Rattle.std.proofs.Math.Bridge.{le_prop}
use Rattle.ppm_pieces.specs.Numbers.{is_digit, is_numeral, value, value_limit}
use Rattle.ppm_pieces.proofs.NumberLemmas.{numeral_parts, numeral-decimal, value-decimal, decimal-value, first_digit, digit_bounds}
use Rattle.ppm_tree.specs.Values.{fits}
use Rattle.ppm_ram.specs.declared.register.Register.{Register}
use Rattle.ppm_ram.specs.Text.{register_word}
use Rattle.ppm_ram.specs.Numbers.{in_range_both, pair_of, made_of, register_by, register_with, register_in, target_in, from_zero, below_zero, negative_in, natural_in, value_in, values_in}
use Rattle.ppm_ram.proofs.PieceLemmas.{AreOf, wider}

-- what is said of a word or words, if it has its form and is in range
abbrev pub Says : {A : Type 0} → Option (Option A) → A → Type 0
Says o x = o ≡ Some (Some x)

abbrev some_in : {A : Type 0} → A → Option (Option A) → A
some_in d None = d
some_in d (Some None) = d
some_in d (Some (Some x)) = x

pub same_said : {A : Type 0} {x y : A} → Some (Some x) ≡ Some (Some y) → x ≡ y
same_said {A} {x} e = ap (some_in x) e

-- two words say a pair where each says its part
pub pair_said : {A B : Type 0} (a : Option (Option A)) (b : Option (Option B)) (p : A × B) → Says (pair_of a b) p → Says a p.0 × Says b p.1
pair_said None b p e = absurd (cc)
pair_said (Some a) None p e = absurd (cc)
pair_said (Some None) (Some b) p e = absurd (cc)
pair_said (Some (Some x)) (Some None) p e = absurd (cc)
pair_said (Some (Some x)) (Some (Some y)) p e =
    let same : (x, y) ≡ p = same_said e in (ap (λ (q : _). Some (Some q.0)) same, ap (λ (q : _). Some (Some q.1)) same)

pub made_said : {A B : Type 0} (f : A → B) (a : Option (Option A)) (y : B) → Says (made_of f a) y → (x : A) × Says a x × (f x ≡ y)
made_said f None y e = absurd (cc)
made_said f (Some None) y e = absurd (cc)
made_said f (Some (Some x)) y e = (x, refl, same_said e)

-- the register with a number
abbrev index_in : ℕ → Option Register → ℕ
index_in n None = n
index_in n (Some r) = r.index

abbrev some_of : {A : Type 0} → A → Option A → A
some_of d None = d
some_of d (Some x) = x

abbrev made : (n : ℕ) → n < 8 → Register
made n h = record { index = n; in_range = h }

pub register_small : (n : ℕ) (h : n < 8) → Some (made n h) ≡ register_with n
register_small n h = go (nat_lt n 8) refl
  where
    go : (small : Bool) (e : nat_lt n 8 ≡ small) → Some (made n h) ≡ register_by n small e
    go true e = ap (λ p. Some (made n p)) (le_prop h (ltb-true n 8 e))
    go false e = absurd (both_ways (nat_lt n 8) e (lt-ltb n 8 h))

pub register_large : (n : ℕ) → 8 ≤ n → None ≡ register_with n
register_large n h = go (nat_lt n 8) refl
  where
    go : (small : Bool) (e : nat_lt n 8 ≡ small) → ◌≡◌ {A = Option Register} None (register_by n small e)
    go true e = let low = ltb-true n 8 e in absurd (omega (arith, low, h))
    go false e = refl

register_number : (n : ℕ) (r : Register) → register_with n ≡ Some r → n ≡ r.index
register_number n r = go (nat_lt n 8) refl
  where
    go : (small : Bool) (e : nat_lt n 8 ≡ small) → register_by n small e ≡ Some r → n ≡ r.index
    go true e h = ap (λ (o : Option Register). index_in n o) h
    go false e h = absurd (cc)

-- a word that says a register is its number
pub register_spelled : (w : List ℕ) (r : Register) → Says (register_in w) r → w ≡ register_word r
register_spelled w r e = by (is_numeral w) refl e
  where
    by : (b : Bool) → is_numeral w ≡ b → cond b (Some (register_with (value w))) None ≡ Some (Some r) → w ≡ register_word r
    by true n h =
        let is : register_with (value w) ≡ Some r = ap (λ o. some_of None o) h in
        let same = register_number (value w) r is in
        sym (decimal-value w n (omega (arith, same, r.in_range))) ∙ ap decimal same
    by false n h = absurd (cc)

pub register_read : (r : Register) → Says (register_in (register_word r)) r
register_read r =
    let small : r.index < 2 ^ 64 = omega (arith, r.in_range) in
    cond-true (is_numeral (decimal r.index)) (Some (register_with (value (decimal r.index)))) None (numeral-decimal r.index small)
    ∙ ap (λ (n : ℕ). Some (register_with n)) (value-decimal r.index small) ∙ ap (λ o. Some o) (sym (register_small r.index r.in_range))

-- a word that says the number of an instruction is that number
pub target_spelled : (w : List ℕ) (t : ℕ) → Says (target_in w) t → t < 2 ^ 32 - 1 → w ≡ decimal t
target_spelled w t e low = by (is_numeral w) refl e
  where
    by : (b : Bool) → is_numeral w ≡ b → cond b (Some (Some (min (value w) (2 ^ 32 - 1)))) None ≡ Some (Some t) → w ≡ decimal t
    by true n h =
        let same : min (value w) (2 ^ 32 - 1) ≡ t = same_said h in
        let is : value w ≡ t = omega (arith, same, low) in
        sym (decimal-value w n (omega (arith, is, low))) ∙ ap decimal is
    by false n h = absurd (cc)

pub target_read : (t : ℕ) → t < 2 ^ 32 - 1 → Says (target_in (decimal t)) t
target_read t low =
    let small : t < 2 ^ 64 = omega (arith, low) in
    cond-true (is_numeral (decimal t)) (Some (Some (min (value (decimal t)) (2 ^ 32 - 1)))) None (numeral-decimal t small)
    ∙ ap (λ (n : ℕ). Some (Some (min n (2 ^ 32 - 1)))) (value-decimal t small)
    ∙ (let is : min t (2 ^ 32 - 1) ≡ t = omega (arith, low) in ap (λ (n : ℕ). Some (Some n)) is)

-- and with a value
pub fits_signed : (z : ℤ) → fits z ≡ true → FitsSigned w64 z
fits_signed (pos n) e = grind arith
fits_signed (negsuc n) e = grind arith

digits_natural : (ds : List ℕ) → is_numeral ds ≡ true → value_in ds ≡ natural_in ds
digits_natural [] h = absurd (both_ways false refl h)
digits_natural (d ∷ ds) h =
    cond-false (d == 45) (negative_in ds) (natural_in (d ∷ ds)) (ne_eqb d 45 (λ e. omega (arith, (digit_bounds d (first_digit d ds h)).0, e)))

pub value_read : (z : ℤ) → fits z ≡ true → Says (value_in (signed_decimal z)) z
value_read (pos n) fit =
    let h = fits_signed (pos n) fit in
    let small : n < 2 ^ 64 = omega (arith, h.sfits) in
    let numeral = numeral-decimal n small in
    digits_natural (decimal n) numeral
    ∙ cond-true (is_numeral (decimal n)) (Some (from_zero (value (decimal n)))) None numeral
    ∙ ap (λ (m : ℕ). Some (from_zero m)) (value-decimal n small)
    ∙ ap (λ (o : Option ℤ). Some o) (cond-true (nat_lt n (2 ^ 63)) (Some (pos n)) None (lt-ltb n (2 ^ 63) (omega (arith, h.sfits))))
value_read (negsuc n) fit =
    let h = fits_signed (negsuc n) fit in
    let small : suc n < 2 ^ 64 = omega (arith, h.sfits) in
    let is = value-decimal (suc n) small in
    let digits = decimal (suc n) in
    let some : not (value digits == 0) ≡ true = ap (λ (b : Bool). not b) (ne_eqb (value digits) 0 (λ e. omega (arith, is, e))) in
    cond-true (is_numeral digits && not (value digits == 0)) (Some (below_zero (value digits))) None (both_true (numeral-decimal (suc n) small) some)
    ∙ ap (λ (m : ℕ). Some (below_zero m)) is
    ∙ ap (λ (o : Option ℤ). Some o)
    (cond-true (nat_le (suc n) (2 ^ 63)) (Some (negsuc (suc n - 1))) None (le-leb (suc n) (2 ^ 63) (omega (arith, h.sfits)))
    ∙ ap (λ (m : ℕ). Some (negsuc m)) (omega arith))

-- a word that says a value is what is written of it
natural_spelled : (ds : List ℕ) (z : ℤ) → Says (natural_in ds) z → (ds ≡ signed_decimal z) × (fits z ≡ true)
natural_spelled ds z e = by (is_numeral ds) refl e
  where
    small : (b : Bool) → nat_lt (value ds) (2 ^ 63) ≡ b → is_numeral ds ≡ true → Some (cond b (Some (pos (value ds))) None) ≡ Some (Some z)
        → (ds ≡ signed_decimal z) × (fits z ≡ true)
    small true t n h =
        let same : pos (value ds) ≡ z = same_said h in
        let low = ltb-true (value ds) (2 ^ 63) t in
        subst (λ (z : ℤ). (ds ≡ signed_decimal z) × (fits z ≡ true)) same (sym (decimal-value ds n (omega (arith, low))), t)
    small false t n h = absurd (cc)

    by : (b : Bool) → is_numeral ds ≡ b → cond b (Some (from_zero (value ds))) None ≡ Some (Some z) → (ds ≡ signed_decimal z) × (fits z ≡ true)
    by true n h = small (nat_lt (value ds) (2 ^ 63)) refl n h
    by false n h = absurd (cc)

positive : (n : ℕ) → not (n == 0) ≡ true → 0 < n
positive zero h = absurd (both_ways false refl h)
positive (suc n) h = omega arith

negative_spelled : (ds : List ℕ) (z : ℤ) → Says (negative_in ds) z → (45 ∷ ds ≡ signed_decimal z) × (fits z ≡ true)
negative_spelled ds z e = by (is_numeral ds && not (value ds == 0)) refl e
  where
    small : (b : Bool) → nat_le (value ds) (2 ^ 63) ≡ b → (is_numeral ds && not (value ds == 0)) ≡ true
        → Some (cond b (Some (negsuc (value ds - 1))) None) ≡ Some (Some z) → (45 ∷ ds ≡ signed_decimal z) × (fits z ≡ true)
    small true t n h =
        let same : negsuc (value ds - 1) ≡ z = same_said h in
        let low = leb-true (value ds) (2 ^ 63) t in
        let parts = and_parts (is_numeral ds) (not (value ds == 0)) n in
        let above = positive (value ds) parts.1 in
        let next : value ds ≡ suc (value ds - 1) = omega (arith, above) in
        subst (λ (z : ℤ). (45 ∷ ds ≡ signed_decimal z) × (fits z ≡ true)) same (
          ap (λ (l : List ℕ). 45 ∷ l) (sym (decimal-value ds parts.0 (omega (arith, low))) ∙ ap decimal next),
          lt-ltb (value ds - 1) (2 ^ 63) (omega (arith, low, above)),
        )
    small false t n h = absurd (cc)

    by : (b : Bool) → (is_numeral ds && not (value ds == 0)) ≡ b → cond b (Some (below_zero (value ds))) None ≡ Some (Some z)
        → (45 ∷ ds ≡ signed_decimal z) × (fits z ≡ true)
    by true n h = small (nat_le (value ds) (2 ^ 63)) refl n h
    by false n h = absurd (cc)

pub value_spelled : (w : List ℕ) (z : ℤ) → Says (value_in w) z → (w ≡ signed_decimal z) × (fits z ≡ true)
value_spelled [] z e = absurd (cc)
value_spelled (b ∷ bs) z e = by (b == 45) refl e
  where
    by : (minus : Bool) → (b == 45) ≡ minus → cond minus (negative_in bs) (natural_in (b ∷ bs)) ≡ Some (Some z)
        → (b ∷ bs ≡ signed_decimal z) × (fits z ≡ true)
    by true t h = let k = negative_spelled bs z h in (ap (λ (n : ℕ). n ∷ bs) (eqb-true b 45 t) ∙ k.0, k.1)
    by false t h = natural_spelled (b ∷ bs) z h

-- values
pub values_spelled : (ws : List (List ℕ)) (zs : List ℤ) → Says (values_in ws) zs
    → (ws ≡ map signed_decimal zs) × AllByRecursion (λ v. fits v ≡ true) zs
values_spelled [] zs e =
    let same : [] ≡ zs = same_said e in
    subst (λ (zs : List ℤ). ([] ≡ map signed_decimal zs) × AllByRecursion (λ v. fits v ≡ true) zs) same (refl, tt)
values_spelled (w ∷ ws) zs e =
    let (p, pair, same) = made_said (λ (p : ℤ × List ℤ). p.0 ∷ p.1) (pair_of (value_in w) (values_in ws)) zs e in
    let parts = pair_said (value_in w) (values_in ws) p pair in
    let first = value_spelled w p.0 parts.0 in
    let rest = values_spelled ws p.1 parts.1 in
    subst (λ (zs : List ℤ). (w ∷ ws ≡ map signed_decimal zs) × AllByRecursion (λ v. fits v ≡ true) zs) same
    (ap₂ (λ (w : List ℕ) (ws : List (List ℕ)). w ∷ ws) first.0 rest.0, (first.1, rest.1))

pub values_read : (zs : List ℤ) → AllByRecursion (λ v. fits v ≡ true) zs → Says (values_in (map signed_decimal zs)) zs
values_read [] all = refl
values_read (z ∷ zs) all =
    ap₂ (λ (a : Option (Option ℤ)) (b : Option (Option (List ℤ))). made_of (λ (p : ℤ × List ℤ). p.0 ∷ p.1) (pair_of a b))
    (value_read z all.0) (values_read zs all.1)

-- the bytes of words: no spaces and no line feeds
abbrev pub is_word_byte : ℕ → Bool
is_word_byte b = (nat_le 97 b && nat_le b 122) || (is_digit b || b == 45)

or_right : (a b : Bool) → b ≡ true → (a || b) ≡ true
or_right true b h = refl
or_right false b h = h

or_left : (a b : Bool) → a ≡ true → (a || b) ≡ true
or_left true b h = refl
or_left false b h = absurd (both_ways false refl h)

pub decimal_bytes : (n : ℕ) → n < 2 ^ 64 → AreOf is_word_byte (decimal n)
decimal_bytes n h =
    wider is_digit is_word_byte (λ b t. or_right (nat_le 97 b && nat_le b 122) (is_digit b || b == 45) (or_left (is_digit b) (b == 45) t))
    (decimal n) (numeral_parts (decimal n) (numeral-decimal n h)).0

pub value_bytes : (z : ℤ) → fits z ≡ true → AreOf is_word_byte (signed_decimal z)
value_bytes (pos n) fit = let h = fits_signed (pos n) fit in decimal_bytes n (omega (arith, h.sfits))
value_bytes (negsuc n) fit = let h = fits_signed (negsuc n) fit in both_true refl (decimal_bytes (suc n) (omega (arith, h.sfits)))

pub register_bytes : (r : Register) → AreOf is_word_byte (register_word r)
register_bytes r = decimal_bytes r.index (omega (arith, r.in_range))

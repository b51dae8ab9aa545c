-- Numbers and halves, as they are written and read.
use Rattle.std.proofs.Common.{◌≡◌, ◌∙◌, ℕ, ◌^◌, ◌<◌, ◌==◌, nat_lt, Bool, true, false, not, cond}
use Rattle.std.proofs.Common.{List, [], ◌∷◌, ◌++◌, Option, Some, None, decimal, refl, ap, sym, arith, lt-ltb, ltb-true, eq-eqb, eqb-true, ne_eqb}
use Rattle.std.proofs.lemmas.Bool.{both_ways}
use Rattle.std.proofs.lemmas.Option.{none-some}
use Rattle.std.proofs.lemmas.List.Folds.{list_all-append}
use Rattle.std.specs.Cmp.Derive.{both_true}
use Rattle.std.specs.List.{list_all}
use Rattle.ppm_pieces.specs.Pieces.{halves_of, more_in_front}
use Rattle.ppm_pieces.specs.Numbers.{is_digit, is_numeral, value, number_of}
use Rattle.ppm_pieces.proofs.NumberLemmas.{both_parts, decimal-value, numeral-decimal, value-decimal, numeral_parts}

-- what is there, or else something
pub there_or : {A : Type 0} → A → Option A → A
there_or a None = a
there_or a (Some b) = b

-- two that are there are one
pub same_there : {A : Type 0} (a b : A) → Some a ≡ Some b → a ≡ b
unfolding there_or
same_there a b e = ap (there_or a) e

-- a number below 2^32 is read from its digits
pub number_read : (n : ℕ) → n < 2 ^ 32 → number_of (decimal n) ≡ Some n
number_read n h =
    rw (numeral-decimal n (omega (arith, h)), value-decimal n (omega (arith, h)), lt-ltb n (2 ^ 32) h) refl

-- digits that are read as a number are those that it is written in
pub number_back : (ds : List ℕ) (n : ℕ) → number_of ds ≡ Some n → (n < 2 ^ 32) × (ds ≡ decimal n)
number_back ds n = go (is_numeral ds) refl (nat_lt (value ds) (2 ^ 32)) refl
  where
    go : (a : Bool) → is_numeral ds ≡ a → (b : Bool) → nat_lt (value ds) (2 ^ 32) ≡ b
        → cond a (cond b (Some (value ds)) None) None ≡ Some n → (n < 2 ^ 32) × (ds ≡ decimal n)
    go false e b f h = absurd (none-some n h)
    go true e false f h = absurd (none-some n h)
    go true e true f h =
        let same = same_there (value ds) n h in
        let small = ltb-true (value ds) (2 ^ 32) f in
        (omega (arith, same, small), sym (decimal-value ds e (omega (arith, small))) ∙ ap decimal same)

-- a text has no byte of this kind
abbrev pub lacks : (separator : ℕ) → List ℕ → Bool
lacks separator bs = list_all (λ b. not (b == separator)) bs

-- digits have no byte that is none
digits_lack : (separator : ℕ) (ds : List ℕ) → is_digit separator ≡ false → list_all is_digit ds ≡ true → lacks separator ds ≡ true
digits_lack separator [] h e = refl
digits_lack separator (d ∷ ds) h e =
    let k = both_parts (is_digit d) (list_all is_digit ds) e in
    both_true (ap not (ne_eqb d separator (λ p. both_ways (is_digit separator) h (sym (ap is_digit p) ∙ k.0)))) (digits_lack separator ds h k.1)

pub decimal_lacks : (separator n : ℕ) → is_digit separator ≡ false → n < 2 ^ 32 → lacks separator (decimal n) ≡ true
decimal_lacks separator n h small =
    digits_lack separator (decimal n) h (numeral_parts (decimal n) (numeral-decimal n (omega (arith, small)))).0

-- nor have two texts, one after the other
pub both_lack : (separator : ℕ) (xs ys : List ℕ) → lacks separator xs ≡ true → lacks separator ys ≡ true → lacks separator (xs ++ ys) ≡ true
both_lack separator xs ys h k = list_all-append (λ b. not (b == separator)) xs ys ∙ both_true h k

-- a text is cut at the first separator
pub halves_at : (separator : ℕ) (xs ys : List ℕ) → lacks separator xs ≡ true → halves_of separator (xs ++ separator ∷ ys) ≡ Some (xs, ys)
halves_at separator [] ys h = rw (eq-eqb separator separator refl) refl
halves_at separator (x ∷ xs) ys h = go (x == separator) refl (halves_at separator xs ys)
  where
    go : (same : Bool) → (x == separator) ≡ same → (lacks separator xs ≡ true → halves_of separator (xs ++ separator ∷ ys) ≡ Some (xs, ys))
        → cond same (Some ([], xs ++ separator ∷ ys)) (more_in_front x (halves_of separator (xs ++ separator ∷ ys))) ≡ Some (x ∷ xs, ys)
    go true e f = absurd (both_ways (not (x == separator)) (ap not e) (both_parts (not (x == separator)) (lacks separator xs) h).0)
    go false e f = ap (more_in_front x) (f (both_parts (not (x == separator)) (lacks separator xs) h).1)

-- and not, where there is none
pub no_halves : (separator : ℕ) (xs : List ℕ) → lacks separator xs ≡ true → halves_of separator xs ≡ None
no_halves separator [] h = refl
no_halves separator (x ∷ xs) h = go (x == separator) refl (no_halves separator xs)
  where
    go : (same : Bool) → (x == separator) ≡ same → (lacks separator xs ≡ true → halves_of separator xs ≡ None)
        → cond same (Some ([], xs)) (more_in_front x (halves_of separator xs)) ≡ None
    go true e f = absurd (both_ways (not (x == separator)) (ap not e) (both_parts (not (x == separator)) (lacks separator xs) h).0)
    go false e f = ap (more_in_front x) (f (both_parts (not (x == separator)) (lacks separator xs) h).1)

-- both halves with the separator between them are the text
pub halves_back : (separator : ℕ) (bs xs ys : List ℕ) → halves_of separator bs ≡ Some (xs, ys) → bs ≡ xs ++ separator ∷ ys
halves_back separator [] xs ys h = absurd (none-some (xs, ys) h)
halves_back separator (b ∷ bs) xs ys h = go (b == separator) refl h (halves_back separator bs)
  where
    behind : (o : Option (List ℕ × List ℕ)) → halves_of separator bs ≡ o → more_in_front b o ≡ Some (xs, ys)
        → ((us vs : List ℕ) → halves_of separator bs ≡ Some (us, vs) → bs ≡ us ++ separator ∷ vs) → b ∷ bs ≡ xs ++ separator ∷ ys
    behind None e k f = absurd (none-some (xs, ys) k)
    behind (Some (us, vs)) e k f =
        ap (λ l. b ∷ l) (f us vs e) ∙ ap (λ p. p.0 ++ separator ∷ p.1) (same_there (b ∷ us, vs) (xs, ys) k)

    go : (same : Bool) → (b == separator) ≡ same → cond same (Some ([], bs)) (more_in_front b (halves_of separator bs)) ≡ Some (xs, ys)
        → ((us vs : List ℕ) → halves_of separator bs ≡ Some (us, vs) → bs ≡ us ++ separator ∷ vs) → b ∷ bs ≡ xs ++ separator ∷ ys
    go true e k f = ap (λ c. c ∷ bs) (eqb-true b separator e) ∙ ap (λ p. p.0 ++ separator ∷ p.1) (same_there ([], bs) (xs, ys) k)
    go false e k f = behind (halves_of separator bs) refl k f

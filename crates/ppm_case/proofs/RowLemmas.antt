-- Rows of equal values, from the first on.
use Rattle.std.proofs.Common.{◌≡◌, ◌≢◌, ◌∙◌, ◌⊎◌, inl, inr, ℕ, suc, ◌+◌, ◌==◌, Bool, true, false, ◌&&◌, cond, List, [], ◌∷◌, drop, refl, sym, ap, subst, arith}
use Rattle.std.proofs.Common.{eqb-true}
use Rattle.std.specs.Prelude.{ℤ, pos, negsuc}
use Rattle.std.specs.List.{prefix_len}
use Rattle.std.proofs.lemmas.Bool.{both_ways, and_parts, cond-true, cond-false}
use Rattle.std.proofs.lemmas.Bool.Decides.{eqb_tells}
use Rattle.ppm_pieces.specs.Numbers.{is_empty}
use Rattle.ppm_case.specs.declared.row.Row.{Row}
use Rattle.ppm_case.specs.Text.{row, same_value, in_front, rows_of}
use Rattle.ppm_case.proofs.OptionLemmas.{and_true}

-- values for which the test holds are equal
pub same_is : (y z : ℤ) → same_value y z ≡ true → y ≡ z
same_is (pos n) (pos m) h = ap (λ (k : ℕ). pos k) (eqb-true n m h)
same_is (negsuc n) (negsuc m) h = ap (λ (k : ℕ). negsuc k) (eqb-true n m h)
same_is (pos n) (negsuc m) h = absurd (both_ways false refl h)
same_is (negsuc n) (pos m) h = absurd (both_ways false refl h)

same_number : (n : ℕ) → (n == n) ≡ true
same_number n = by (n == n) (eqb_tells n n)
  where
    by : (b : Bool) → ((b ≡ true) × (n ≡ n)) ⊎ ((b ≡ false) × (n ≢ n)) → b ≡ true
    by b (inl t) = t.0
    by b (inr t) = absurd (t.1 refl)

pub itself : (z : ℤ) → same_value z z ≡ true
itself (pos n) = same_number n
itself (negsuc n) = same_number n

zero_other : (z : ℤ) → same_value (pos 0) z ≡ false → same_value z (pos 0) ≡ false
zero_other (negsuc n) h = refl
zero_other (pos n) h = by (n == 0) refl
  where
    by : (b : Bool) → (n == 0) ≡ b → b ≡ false
    by false e = refl
    by true e = absurd (both_ways (0 == n) h (ap (λ (k : ℕ). 0 == k) (eqb-true n 0 e) ∙ refl))

-- the first row has the first value; where there is none, that is 0
data Begins (z : ℤ) : List Row → Type 0 where
  Row_is : (times : ℕ) (rs : List Row) → Begins z (row z times ∷ rs)
  None_is : same_value z (pos 0) ≡ true → Begins z []

in_front_begins : (z : ℤ) (rs : List Row) → Begins z (in_front z rs)
in_front_begins z [] = by (same_value z (pos 0)) refl
  where
    by : (b : Bool) → same_value z (pos 0) ≡ b → Begins z (cond b [] (row z 1 ∷ []))
    by true e = None_is e
    by false e = Row_is 1 []
in_front_begins z (r ∷ rs) = by (same_value r.number z)
  where
    by : (b : Bool) → Begins z (cond b (row z (1 + r.times) ∷ rs) (row z 1 ∷ r ∷ rs))
    by true = Row_is (1 + r.times) rs
    by false = Row_is 1 (r ∷ rs)

-- another value in front of rows begins one
in_front_other : (y z : ℤ) {rs : List Row} → same_value y z ≡ false → Begins y rs → in_front z rs ≡ row z 1 ∷ rs
in_front_other y z h (Row_is times rs) = cond-false (same_value y z) (row z (1 + times) ∷ rs) (row z 1 ∷ row y times ∷ rs) h
in_front_other y z h (None_is e) =
    cond-false (same_value z (pos 0)) [] (row z 1 ∷ []) (zero_other z (subst (λ (w : ℤ). same_value w z ≡ false) (same_is y (pos 0) e) h))

-- the first row of values, where so many more are the first one and the others are left
abbrev IsFirst : (z : ℤ) (zs : List ℤ) (more : ℕ) (left : List ℤ) → Type 0
IsFirst z zs more left =
    ((same_value z (pos 0) && is_empty left) ≡ true → rows_of (z ∷ zs) ≡ [])
    × ((same_value z (pos 0) && is_empty left) ≡ false → rows_of (z ∷ zs) ≡ row z (1 + more) ∷ rows_of left)

and_false : (a : Bool) → (a && false) ≡ false
and_false true = refl
and_false false = refl

one_more : (y z : ℤ) (ys : List ℤ) (k : ℕ) (left : List ℤ) → y ≡ z → IsFirst z ys k left → IsFirst z (y ∷ ys) (suc k) left
one_more y z ys k left e f = (
  λ h. ap (λ (w : ℤ). in_front z (rows_of (w ∷ ys))) e ∙ ap (λ (rs : List Row). in_front z rs) (f.0 h)
      ∙ cond-true (same_value z (pos 0)) [] (row z 1 ∷ []) (and_parts (same_value z (pos 0)) (is_empty left) h).0,
  λ h. ap (λ (w : ℤ). in_front z (rows_of (w ∷ ys))) e ∙ ap (λ (rs : List Row). in_front z rs) (f.1 h)
      ∙ cond-true (same_value z z) (row z (1 + (1 + k)) ∷ rows_of left) (row z 1 ∷ row z (1 + k) ∷ rows_of left) (itself z)
      ∙ ap (λ (m : ℕ). row z m ∷ rows_of left) (omega arith),
)

pub first_is : (z : ℤ) (zs : List ℤ) → IsFirst z zs (prefix_len (λ v. same_value v z) zs) (drop (prefix_len (λ v. same_value v z) zs) zs)
first_is z [] = (
  λ h. cond-true (same_value z (pos 0)) [] (row z 1 ∷ []) (and_parts (same_value z (pos 0)) true h).0,
  λ h. cond-false (same_value z (pos 0)) [] (row z 1 ∷ []) (sym (and_true (same_value z (pos 0))) ∙ h),
)
first_is z (y ∷ ys) = by (same_value y z) refl (first_is z ys)
  where
    by : (same : Bool) → same_value y z ≡ same → IsFirst z ys (prefix_len (λ v. same_value v z) ys) (drop (prefix_len (λ v. same_value v z) ys) ys)
        → IsFirst z (y ∷ ys) (cond same (1 + prefix_len (λ v. same_value v z) ys) 0) (drop (cond same (1 + prefix_len (λ v. same_value v z) ys) 0) (y ∷ ys))
    by false e f = (
      λ h. absurd (both_ways (same_value z (pos 0) && false) (and_false (same_value z (pos 0))) h),
      λ h. in_front_other y z e (in_front_begins y (rows_of ys)),
    )
    by true e f =
        let k = prefix_len (λ v. same_value v z) ys in
        let one : suc k ≡ 1 + k = omega arith in
        subst (λ (m : ℕ). IsFirst z (y ∷ ys) m (drop m (y ∷ ys))) one (one_more y z ys k (drop k ys) (same_is y z e) f)

-- the first row of values, by what was found
module _ (z : ℤ) (zs left : List ℤ) (more : ℕ) (many : more ≡ prefix_len (λ v. same_value v z) zs) (is_left : left ≡ drop more zs) where
  found : IsFirst z zs more left
  found = subst (λ (ys : List ℤ). IsFirst z zs more ys) (sym is_left) (subst (λ (n : ℕ). IsFirst z zs n (drop n zs)) (sym many) (first_is z zs))

  pub no_row : (same_value z (pos 0) && is_empty left) ≡ true → rows_of (z ∷ zs) ≡ []
  no_row h = found.0 h

  pub one_row : (r : Row) → r ≡ row z (1 + more) → (same_value z (pos 0) && is_empty left) ≡ false → rows_of (z ∷ zs) ≡ r ∷ rows_of left
  one_row r e h = found.1 h ∙ ap (λ (q : Row). q ∷ rows_of left) (sym e)

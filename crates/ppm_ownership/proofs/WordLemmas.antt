-- Words of arrays: what a write changes, and how changes and sameness go on.
use Rattle.std.proofs.Common.{◌≡◌, ◌≢◌, ◌≤◌, ◌<◌, inl, inr, Bool, true, false, ℕ, List, [], length, get_or, set, refl, sym, ap, ◌∙◌, subst, arith}
use Rattle.std.proofs.Common.{get_or-set_same, get_or-set_other}
use Rattle.std.specs.Prelude.{ℤ, pos, negsuc, Ok, nat_lt, nat_le}
use Rattle.std.proofs.lemmas.List.{set_past, length-set}
use Rattle.std.proofs.lemmas.Bool.{cases_eq, cases_lt, ltb-true, leb-true}
use Rattle.ppm_tree.specs.State.{Region, Arrays, array_at, index_in, split_at, tested}
use Rattle.ppm_tree.specs.Meaning.{End, Ended, Trapped, arrays_of}
use Rattle.ppm_ownership.specs.Words.{word, HaveOneShape, AreSameAt, ChangesOnly, KeepsSameness, over}

-- an index that is in a region, and a place where it is split
module _ (line : ℕ) (r : Region) where
  pub index_below : (i : ℤ) (k : ℕ) → index_in line r i ≡ Ok k → k < r.length
  index_below (pos i) k h = go (nat_lt i r.length) refl h
    where
      go : (b : Bool) → nat_lt i r.length ≡ b → tested b (Rattle.ppm_words.specs.declared.trap.Trap.TheVariants.Index, line) i ≡ Ok k → k < r.length
      go true e h = let below = ltb-true i r.length e in let same : i ≡ k = cc in omega (arith, below, same)
      go false e h = absurd (cc)
  index_below (negsuc i) k h = absurd (cc)

  pub split_below : (i : ℤ) (k : ℕ) → split_at line r i ≡ Ok k → k ≤ r.length
  split_below (pos i) k h = go (nat_le i r.length) refl h
    where
      go : (b : Bool) → nat_le i r.length ≡ b → tested b (Rattle.ppm_words.specs.declared.trap.Trap.TheVariants.Split, line) i ≡ Ok k → k ≤ r.length
      go true e h = let below = leb-true i r.length e in let same : i ≡ k = cc in omega (arith, below, same)
      go false e h = absurd (cc)
  split_below (negsuc i) k h = absurd (cc)

-- the arrays with a value at an index of an array
abbrev pub put : Arrays → ℕ → ℕ → ℤ → Arrays
put a n j v = set a n (set (array_at a n) j v)

module _ (a : Arrays) (n j : ℕ) (v : ℤ) where
  array_other : (m : ℕ) → m ≢ n → array_at (put a n j v) m ≡ array_at a m
  array_other m other = get_or-set_other a n m (set (array_at a n) j v) [] other

  array_here : n < length a → array_at (put a n j v) n ≡ set (array_at a n) j v
  array_here there = get_or-set_same a n (set (array_at a n) j v) [] there

  array_past : length a ≤ n → put a n j v ≡ a
  array_past past = set_past a n (set (array_at a n) j v) past

  length_here : length (array_at (put a n j v) n) ≡ length (array_at a n)
  length_here = elim (cases_lt n (length a)) [
    | inl there ↦ ap (λ (xs : List ℤ). length xs) (array_here there) ∙ length-set (array_at a n) j v
    | inr past ↦ ap (λ (b : Arrays). length (array_at b n)) (array_past past)
  ]

  pub put_lengths : (m : ℕ) → length (array_at (put a n j v) m) ≡ length (array_at a m)
  put_lengths m = elim (cases_eq m n) [
    | inl e ↦ subst (λ (m : ℕ). length (array_at (put a n j v) m) ≡ length (array_at a m)) (sym e) length_here
    | inr other ↦ ap (λ (xs : List ℤ). length xs) (array_other m other)
  ]

  pub put_count : length (put a n j v) ≡ length a
  put_count = length-set a n (set (array_at a n) j v)

  beside_here : (i : ℕ) → i ≢ j → word (put a n j v) n i ≡ word a n i
  beside_here i other = elim (cases_lt n (length a)) [
    | inl there ↦ ap (λ (xs : List ℤ). get_or xs i (pos 0)) (array_here there) ∙ get_or-set_other (array_at a n) j i v (pos 0) other
    | inr past ↦ ap (λ (b : Arrays). word b n i) (array_past past)
  ]

  -- no other word is changed
  pub put_other : (m i : ℕ) → ((m ≡ n) → (i ≡ j) → ⊥) → word (put a n j v) m i ≡ word a m i
  put_other m i other = elim (cases_eq m n) [
    | inl e ↦ subst (λ (m : ℕ). word (put a n j v) m i ≡ word a m i) (sym e) (beside_here i (other e))
    | inr away ↦ ap (λ (xs : List ℤ). get_or xs i (pos 0)) (array_other m away)
  ]

-- in lists of one length, the same value is put
put_alike : (xs ys : List ℤ) (j : ℕ) (v : ℤ) → length xs ≡ length ys → get_or xs j (pos 0) ≡ get_or ys j (pos 0)
    → get_or (set xs j v) j (pos 0) ≡ get_or (set ys j v) j (pos 0)
put_alike xs ys j v same h = elim (cases_lt j (length xs)) [
  | inl there ↦ get_or-set_same xs j v (pos 0) there ∙ sym (get_or-set_same ys j v (pos 0) (omega (arith, there, same)))
  | inr past ↦
      let past' : length ys ≤ j = omega (arith, past, same) in
      ap (λ (zs : List ℤ). get_or zs j (pos 0)) (set_past xs j v past) ∙ h ∙ ap (λ (zs : List ℤ). get_or zs j (pos 0)) (sym (set_past ys j v past'))
]

module _ (a c : Arrays) (shape : HaveOneShape a c) (n j : ℕ) (v : ℤ) where
  same_here : word a n j ≡ word c n j → word (put a n j v) n j ≡ word (put c n j v) n j
  same_here h = elim (cases_lt n (length a)) [
    | inl there ↦
        let count = shape.count in
        let there' : n < length c = omega (arith, there, count) in
        ap (λ (xs : List ℤ). get_or xs j (pos 0)) (array_here a n j v there) ∙ put_alike (array_at a n) (array_at c n) j v (shape.lengths n) h
        ∙ ap (λ (xs : List ℤ). get_or xs j (pos 0)) (sym (array_here c n j v there'))
    | inr past ↦
        let count = shape.count in
        let past' : length c ≤ n = omega (arith, past, count) in
        ap (λ (b : Arrays). word b n j) (array_past a n j v past) ∙ h ∙ ap (λ (b : Arrays). word b n j) (sym (array_past c n j v past'))
  ]

  same_put : (m i : ℕ) → word a m i ≡ word c m i → word (put a n j v) m i ≡ word (put c n j v) m i
  same_put m i h = elim (cases_eq m n) [
    | inr away ↦ beside (λ e f. away e)
    | inl e ↦ elim (cases_eq i j) [
      | inr away ↦ beside (λ e f. away f)
      | inl f ↦ subst (λ (i : ℕ). word (put a n j v) m i ≡ word (put c n j v) m i) (sym f)
          (subst (λ (m : ℕ). word (put a n j v) m j ≡ word (put c n j v) m j) (sym e)
          (same_here (subst (λ (i : ℕ). word a n i ≡ word c n i) f (subst (λ (m : ℕ). word a m i ≡ word c m i) e h))))
    ]
  ]
    where
      beside : ((m ≡ n) → (i ≡ j) → ⊥) → word (put a n j v) m i ≡ word (put c n j v) m i
      beside other = put_other a n j v m i other ∙ h ∙ sym (put_other c n j v m i other)

  -- where words were the same they are so after the write
  pub put_keeps : KeepsSameness a c (put a n j v) (put c n j v)
  put_keeps = record {
    shape = record {
      count = put_count a n j v ∙ shape.count ∙ sym (put_count c n j v);
      lengths = λ k. put_lengths a n j v k ∙ shape.lengths k ∙ sym (put_lengths c n j v k);
    };
    words = same_put;
  }

pub same_shape : (a : Arrays) → HaveOneShape a a
same_shape a = record { count = refl; lengths = λ k. refl }

pub shape_on : {a b c : Arrays} → HaveOneShape a b → HaveOneShape b c → HaveOneShape a c
shape_on p q = record { count = p.count ∙ q.count; lengths = λ k. p.lengths k ∙ q.lengths k }

-- nothing is changed, one after the other, and no more than more
pub unchanged : (P : ℕ → ℕ → Type 0) (a : Arrays) → ChangesOnly P a a
unchanged P a = record { shape = same_shape a; kept = λ k i h. refl }

pub changes_on : {P : ℕ → ℕ → Type 0} {a b c : Arrays} → ChangesOnly P a b → ChangesOnly P b c → ChangesOnly P a c
changes_on p q = record { shape = shape_on p.shape q.shape; kept = λ k i h. q.kept k i h ∙ p.kept k i h }

pub changes_more : {P Q : ℕ → ℕ → Type 0} {a b : Arrays} → ((k i : ℕ) → P k i → Q k i) → ChangesOnly P a b → ChangesOnly Q a b
changes_more more p = record { shape = p.shape; kept = λ k i h. p.kept k i (λ w. h (more k i w)) }

pub put_changes : (P : ℕ → ℕ → Type 0) (a : Arrays) (n j : ℕ) (v : ℤ) → P n j → ChangesOnly P a (put a n j v)
put_changes P a n j v there = record {
  shape = record { count = sym (put_count a n j v); lengths = λ k. sym (put_lengths a n j v k) };
  kept = λ m i h. put_other a n j v m i (λ e f. h (subst (λ (m : ℕ). P m i) (sym e) (subst (λ (i : ℕ). P n i) (sym f) there)));
}

-- sameness goes on
pub keeps_on : {a b c d e f : Arrays} → KeepsSameness a b c d → KeepsSameness c d e f → KeepsSameness a b e f
keeps_on p q = record { shape = q.shape; words = λ k i h. q.words k i (p.words k i h) }

pub keeps_itself : (a b : Arrays) → HaveOneShape a b → KeepsSameness a b a b
keeps_itself a b shape = record { shape = shape; words = λ k i h. h }

pub same_on : {P : ℕ → ℕ → Type 0} {a b c d : Arrays} → AreSameAt P a b → KeepsSameness a b c d → AreSameAt P c d
same_on p q = record { shape = q.shape; words = λ k i h. q.words k i (p.words k i h) }

pub same_less : {P Q : ℕ → ℕ → Type 0} {a b : Arrays} → ((k i : ℕ) → P k i → Q k i) → AreSameAt Q a b → AreSameAt P a b
same_less more p = record { shape = p.shape; words = λ k i h. p.words k i (more k i h) }

-- an end over other arrays has those
pub over_has : {A : Type 0} (z : End A) (c : Arrays) → arrays_of (over z c) ≡ c
over_has (Ended x a) c = refl
over_has (Trapped stop a) c = refl

-- What stamps show of a stretch of a run, whatever tree it is of: which words it wrote and touched, for all who ask later.
use Rattle.std.proofs.Common.{◌≡◌, ◌⊎◌, inl, inr, refl, sym, ◌∙◌, ◌↔◌, ◌<◌, ◌≤◌, ℕ, Bool, true, false, ◌&&◌, ◌||◌, nat_le, nat_lt, arith}
use Rattle.std.proofs.Common.{le_trans, lt_of_lt_of_le}
use Rattle.std.proofs.lemmas.Bool.{both_ways, or_cases, and_parts, and_from, le-leb, lt-ltb, leb-true, ltb-true}
use Rattle.ppm_stamps.specs.Stamps.{Stamps, right_of}

-- who asks by q about new stamps is told what the old ones said, and that p
pub record Told (q : ℕ → Bool) (old new : ℕ → ℕ) (p : ℕ → Type 0) (x : ℕ) : Type 0 where
  pub kept : q (old x) ≡ true → q (new x) ≡ true
  pub added : p x → q (new x) ≡ true
  pub only : q (new x) ≡ true → (q (old x) ≡ true) ⊎ p x

-- all that q says of stamps below some is said by r
abbrev pub IsInside : (q r : ℕ → Bool) → ℕ → Type 0
IsInside q r end = (k : ℕ) → k < end → q k ≡ true → r k ≡ true

-- q says of the stamps from one up to another
abbrev pub SaysAll : (q : ℕ → Bool) → (start end : ℕ) → Type 0
SaysAll q start end = (k : ℕ) → start ≤ k → k < end → q k ≡ true

abbrev pub SaysMore : (q r : ℕ → Bool) → Type 0
SaysMore q r = (k : ℕ) → r k ≡ true → q k ≡ true

-- a stretch that wrote w and touched t, met nothing beside it, and left stamps that say so
pub record Covers (beside : ℕ → Bool) (w t : ℕ → Type 0) (s u : Stamps) : Type 0 where
  pub later : s.time ≤ u.time
  pub below_wrote : (x : ℕ) → u.wrote x < u.time
  pub below_touched : (x : ℕ) → u.touched x < u.time
  pub unwritten : (x : ℕ) → t x → beside (s.wrote x) ≡ false
  pub untouched : (x : ℕ) → w x → beside (s.touched x) ≡ false
  -- for who asks of no more than what is beside nothing has changed
  pub inside_wrote : (q : ℕ → Bool) → IsInside q beside u.time → (x : ℕ) → q (u.wrote x) ≡ q (s.wrote x)
  pub inside_touched : (q : ℕ → Bool) → IsInside q beside u.time → (x : ℕ) → q (u.touched x) ≡ q (s.touched x)
  -- who asks of the whole stretch too is told of it
  pub told_wrote : (q : ℕ → Bool) → SaysMore q beside → SaysAll q s.time u.time → (x : ℕ) → Told q s.wrote u.wrote w x
  pub told_touched : (q : ℕ → Bool) → SaysMore q beside → SaysAll q s.time u.time → (x : ℕ) → Told q s.touched u.touched t x

-- told twice
pub told_both : (q : ℕ → Bool) (i j k : ℕ → ℕ) (p r : ℕ → Type 0) (x : ℕ) → Told q i j p x → Told q j k r x → Told q i k (λ y. p y ⊎ r y) x
told_both q i j k p r x first second = record {
  kept = λ h. second.kept (first.kept h);
  added = λ h. elim h [ inl y ↦ second.kept (first.added y) | inr y ↦ second.added y ];
  only = λ h. elim (second.only h) [ inl y ↦ elim (first.only y) [ inl z ↦ inl z | inr z ↦ inr (inl z) ] | inr y ↦ inr (inr y) ];
}

pub told_as : (q : ℕ → Bool) (i j : ℕ → ℕ) (p r : ℕ → Type 0) (x : ℕ) → p x ↔ r x → Told q i j p x → Told q i j r x
told_as q i j p r x same told = record {
  kept = told.kept;
  added = λ h. told.added (same.1 h);
  only = λ h. elim (told.only h) [ inl y ↦ inl y | inr y ↦ inr (same.0 y) ];
}

-- it covers other words for what it wrote and touched
pub covers_as : (beside : ℕ → Bool) (w t v r : ℕ → Type 0) (s u : Stamps) → ((x : ℕ) → w x ↔ v x) → ((x : ℕ) → t x ↔ r x)
    → Covers beside w t s u → Covers beside v r s u
covers_as beside w t v r s u wv tr it = record {
  later = it.later;
  below_wrote = it.below_wrote;
  below_touched = it.below_touched;
  unwritten = λ x h. it.unwritten x ((tr x).1 h);
  untouched = λ x h. it.untouched x ((wv x).1 h);
  inside_wrote = it.inside_wrote;
  inside_touched = it.inside_touched;
  told_wrote = λ q more all x. told_as q s.wrote u.wrote w v x (wv x) (it.told_wrote q more all x);
  told_touched = λ q more all x. told_as q s.touched u.touched t r x (tr x) (it.told_touched q more all x);
}

-- a stretch with nothing in it
pub covers_none : (beside : ℕ → Bool) (s : Stamps) → ((x : ℕ) → s.wrote x < s.time) → ((x : ℕ) → s.touched x < s.time)
    → Covers beside (λ x. ⊥) (λ x. ⊥) s s
covers_none beside s low_wrote low_touched = record {
  later = omega arith;
  below_wrote = low_wrote;
  below_touched = low_touched;
  unwritten = λ x h. absurd h;
  untouched = λ x h. absurd h;
  inside_wrote = λ q in_ x. refl;
  inside_touched = λ q in_ x. refl;
  told_wrote = λ q more all x. record { kept = λ h. h; added = λ h. absurd h; only = λ h. inl h };
  told_touched = λ q more all x. record { kept = λ h. h; added = λ h. absurd h; only = λ h. inl h };
}

-- one stretch after the other
module _ (beside : ℕ → Bool) (w t v r : ℕ → Type 0) (s m u : Stamps) (first : Covers beside w t s m) (second : Covers beside v r m u) where
  inside_first : (q : ℕ → Bool) → IsInside q beside u.time → IsInside q beside m.time
  inside_first q in_ = λ k lt h. in_ k (lt_of_lt_of_le lt second.later) h

  all_first : (q : ℕ → Bool) → SaysAll q s.time u.time → SaysAll q s.time m.time
  all_first q all = λ k le lt. all k le (lt_of_lt_of_le lt second.later)

  all_second : (q : ℕ → Bool) → SaysAll q s.time u.time → SaysAll q m.time u.time
  all_second q all = λ k le lt. all k (le_trans first.later le) lt

  pub covers_both : Covers beside (λ x. w x ⊎ v x) (λ x. t x ⊎ r x) s u
  covers_both = record {
    later = le_trans first.later second.later;
    below_wrote = second.below_wrote;
    below_touched = second.below_touched;
    unwritten = λ x h. elim h [
      | inl y ↦ first.unwritten x y
      | inr y ↦ sym (first.inside_wrote beside (λ k lt z. z) x) ∙ second.unwritten x y
    ];
    untouched = λ x h. elim h [
      | inl y ↦ first.untouched x y
      | inr y ↦ sym (first.inside_touched beside (λ k lt z. z) x) ∙ second.untouched x y
    ];
    inside_wrote = λ q in_ x. second.inside_wrote q in_ x ∙ first.inside_wrote q (inside_first q in_) x;
    inside_touched = λ q in_ x. second.inside_touched q in_ x ∙ first.inside_touched q (inside_first q in_) x;
    told_wrote = λ q more all x. told_both q s.wrote m.wrote u.wrote w v x (first.told_wrote q more (all_first q all) x)
        (second.told_wrote q more (all_second q all) x);
    told_touched = λ q more all x. told_both q s.touched m.touched u.touched t r x (first.told_touched q more (all_first q all) x)
        (second.told_touched q more (all_second q all) x);
  }

pub or_left : (x y : Bool) → x ≡ true → (x || y) ≡ true
or_left true y h = refl
or_left false y h = absurd (cc)

-- what was beside the fork is beside its right branch, and so is the left one
pub right_more : (beside : ℕ → Bool) (start mid : ℕ) → SaysMore (right_of beside start mid) beside
right_more beside start mid k h = or_left (beside k) _ h

pub or_right : (x y : Bool) → y ≡ true → (x || y) ≡ true
or_right true y h = refl
or_right false y h = h

or_not : (x y : Bool) → (x || y) ≡ false → x ≡ false
or_not true y h = h
or_not false y h = refl

pub right_all : (beside : ℕ → Bool) (start mid : ℕ) → SaysAll (right_of beside start mid) start mid
right_all beside start mid k le lt =
    or_right (beside k) (nat_le start k && nat_lt k mid) (and_from (nat_le start k) (nat_lt k mid) (le-leb start k le) (lt-ltb k mid lt))

-- and nothing else
pub right_only : (beside : ℕ → Bool) (start mid k : ℕ) → right_of beside start mid k ≡ true → (beside k ≡ true) ⊎ ((start ≤ k) × (k < mid))
right_only beside start mid k h = elim (or_cases (beside k) (nat_le start k && nat_lt k mid) h) [
  | inl y ↦ inl y
  | inr y ↦ let p = and_parts (nat_le start k) (nat_lt k mid) y in inr (leb-true start k p.0, ltb-true k mid p.1)
]

-- the two branches of a fork: the right one meets nothing that the left one did
module _ (beside : ℕ → Bool) (w t v r : ℕ → Type 0) (s m u : Stamps) (first : Covers beside w t s m)
    (second : Covers (right_of beside s.time m.time) v r m u) where
  fork_more : (q : ℕ → Bool) → SaysMore q beside → SaysAll q s.time u.time → SaysMore q (right_of beside s.time m.time)
  fork_more q more all = λ k h. elim (right_only beside s.time m.time k h) [
    | inl y ↦ more k y
    | inr y ↦ all k y.0 (lt_of_lt_of_le y.1 second.later)
  ]

  fork_inside : (q : ℕ → Bool) → IsInside q beside u.time → IsInside q (right_of beside s.time m.time) u.time
  fork_inside q in_ = λ k lt h. right_more beside s.time m.time k (in_ k lt h)

  fork_unwritten : (x : ℕ) → r x → beside (s.wrote x) ≡ false
  fork_unwritten x y = sym (first.inside_wrote beside (λ k lt z. z) x) ∙ or_not (beside (m.wrote x)) _ (second.unwritten x y)

  fork_untouched : (x : ℕ) → v x → beside (s.touched x) ≡ false
  fork_untouched x y = sym (first.inside_touched beside (λ k lt z. z) x) ∙ or_not (beside (m.touched x)) _ (second.untouched x y)

  pub covers_fork : Covers beside (λ x. w x ⊎ v x) (λ x. t x ⊎ r x) s u
  covers_fork = record {
    later = le_trans first.later second.later;
    below_wrote = second.below_wrote;
    below_touched = second.below_touched;
    unwritten = λ x h. elim h [ inl y ↦ first.unwritten x y | inr y ↦ fork_unwritten x y ];
    untouched = λ x h. elim h [ inl y ↦ first.untouched x y | inr y ↦ fork_untouched x y ];
    inside_wrote = λ q in_ x. second.inside_wrote q (fork_inside q in_) x
        ∙ first.inside_wrote q (λ k lt h. in_ k (lt_of_lt_of_le lt second.later) h) x;
    inside_touched = λ q in_ x. second.inside_touched q (fork_inside q in_) x
        ∙ first.inside_touched q (λ k lt h. in_ k (lt_of_lt_of_le lt second.later) h) x;
    told_wrote = λ q more all x. told_both q s.wrote m.wrote u.wrote w v x
        (first.told_wrote q more (λ k le lt. all k le (lt_of_lt_of_le lt second.later)) x)
        (second.told_wrote q (fork_more q more all) (λ k le lt. all k (le_trans first.later le) lt) x);
    told_touched = λ q more all x. told_both q s.touched m.touched u.touched t r x
        (first.told_touched q more (λ k le lt. all k le (lt_of_lt_of_le lt second.later)) x)
        (second.told_touched q (fork_more q more all) (λ k le lt. all k (le_trans first.later le) lt) x);
  }

  -- neither branch writes what the other touches
  pub apart_left : (x : ℕ) → w x → r x → ⊥
  apart_left x i j = both_ways _ (second.unwritten x j)
      ((first.told_wrote (right_of beside s.time m.time) (right_more beside s.time m.time) (right_all beside s.time m.time) x).added i)

  pub apart_right : (x : ℕ) → v x → t x → ⊥
  apart_right x i j = both_ways _ (second.untouched x i)
      ((first.told_touched (right_of beside s.time m.time) (right_more beside s.time m.time) (right_all beside s.time m.time) x).added j)

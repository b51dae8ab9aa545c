-- Two stretches of which neither may write what the other owns may run in either order.
use Rattle.std.proofs.Common.{◌≡◌, ◌≢◌, ◌⊎◌, inl, inr, Bool, true, false, ℕ, [], ext_get_or, refl, sym, ◌∙◌, subst}
use Rattle.std.specs.Prelude.{ℤ, pos}
use Rattle.std.specs.Ordering.{int_eq}
use Rattle.std.proofs.lemmas.Bool.Decides.{Decides-int_eq}
use Rattle.ppm_tree.specs.State.{Regions, Frame, Arrays, array_at}
use Rattle.ppm_tree.specs.Meaning.{Counts, End, arrays_of}
use Rattle.ppm_regions.specs.Scope.{Scope}
use Rattle.ppm_ownership.specs.Words.{word, HaveOneShape, ChangesOnly, KeepsSameness, over}
use Rattle.ppm_ownership.specs.Owning.{MayWrite, AreSeparate}
use Rattle.ppm_ownership.specs.Correct.{IsWithin, MaySwap, AreUnordered}
use Rattle.ppm_ownership.proofs.ScopeLemmas.{written_owned}
use Rattle.ppm_ownership.proofs.WordLemmas.{shape_on, over_has}

-- two values are the same or not
value_cases : (x y : ℤ) → (x ≡ y) ⊎ (x ≢ y)
value_cases x y = go (int_eq x y) refl
  where
    go : (b : Bool) → int_eq x y ≡ b → (x ≡ y) ⊎ (x ≢ y)
    go true e = inl ((Decides-int_eq x y).0 e)
    go false e = inr (λ same. let t = (Decides-int_eq x y).1 same in true_is_false (sym t ∙ e))
      where
        true_is_false : true ≡ false → ⊥
        true_is_false e = cc

-- arrays of one shape with the same words are the same
same_arrays : (a b : Arrays) → HaveOneShape a b → ((k i : ℕ) → word a k i ≡ word b k i) → a ≡ b
same_arrays a b shape h =
    ext_get_or [] a b shape.count (λ k short. ext_get_or (pos 0) (array_at a k) (array_at b k) (shape.lengths k) (λ i below. h k i))

shape_back : {a b : Arrays} → HaveOneShape a b → HaveOneShape b a
shape_back s = record { count = sym s.count; lengths = λ k. sym (s.lengths k) }

module _ {A B : Type 0} (first : Arrays → Counts → End A → Type 0) (second : Arrays → Counts → End B → Type 0) (scope other : Scope) (f g : Frame)
    (p : IsWithin scope f first) (q : IsWithin other g second) (apart : AreSeparate scope f.regions other g.regions) where
  -- no word may be written by both
  not_both : (k i : ℕ) → MayWrite scope f.regions k i → MayWrite other g.regions k i → ⊥
  not_both k i m n = apart.left k i m (written_owned other g.regions k i n)

  module _ (a : Arrays) (j k : Counts) (x : End A) (y : End B) (run : first a j x) (run' : second (arrays_of x) k y) where
    changed : ChangesOnly (MayWrite scope f.regions) a (arrays_of x)
    changed = p.changes a j x run

    changed' : ChangesOnly (MayWrite other g.regions) (arrays_of x) (arrays_of y)
    changed' = q.changes (arrays_of x) k y run'

    -- the second, run before the first, does as it does after it
    in_front : (c : Arrays) × second a k (over y c) × KeepsSameness (arrays_of x) a (arrays_of y) c
    in_front = q.local (arrays_of x) a k y run' (record {
      shape = shape_back changed.shape;
      words = λ n i o. changed.kept n i (λ m. apart.left n i m o);
    })

    abbrev between : Arrays
    between = in_front.0

    changed_in_front : ChangesOnly (MayWrite other g.regions) a between
    changed_in_front = subst (λ (c : Arrays). ChangesOnly (MayWrite other g.regions) a c) (over_has y between) (q.changes a k (over y between) in_front.1)

    -- and the first after it
    behind : (d : Arrays) × first between j (over x d) × KeepsSameness a between (arrays_of x) d
    behind = p.local a between j x run (record {
      shape = changed_in_front.shape;
      words = λ n i o. sym (changed_in_front.kept n i (λ m. apart.right n i o m));
    })

    abbrev last : Arrays
    last = behind.0

    changed_behind : ChangesOnly (MayWrite scope f.regions) between last
    changed_behind = subst (λ (c : Arrays). ChangesOnly (MayWrite scope f.regions) between c) (over_has x last) (p.changes between j (over x last) behind.1)

    -- a word that the first changed, the second did not
    first_changed : (n i : ℕ) → word a n i ≢ word (arrays_of x) n i → word last n i ≡ word (arrays_of y) n i
    first_changed n i differ =
        let only : ¬ MayWrite other g.regions n i = λ m. differ (sym (changed.kept n i (λ o. not_both n i o m))) in
        sym (behind.2.words n i (sym (changed_in_front.kept n i only))) ∙ sym (changed'.kept n i only)

    -- a word that the second changed, the first did not
    second_changed : (n i : ℕ) → word a n i ≡ word (arrays_of x) n i → word a n i ≢ word between n i → word last n i ≡ word (arrays_of y) n i
    second_changed n i same differ =
        let only : ¬ MayWrite scope f.regions n i = λ m. differ (sym (changed_in_front.kept n i (λ o. not_both n i m o))) in
        changed_behind.kept n i only ∙ sym (in_front.2.words n i (sym same))

    neither_changed : (n i : ℕ) → word a n i ≡ word (arrays_of x) n i → word a n i ≡ word between n i → word last n i ≡ word (arrays_of y) n i
    neither_changed n i same same' = sym (behind.2.words n i same') ∙ sym same ∙ same' ∙ sym (in_front.2.words n i (sym same))

    same_words : (n i : ℕ) → word last n i ≡ word (arrays_of y) n i
    same_words n i = elim (value_cases (word a n i) (word (arrays_of x) n i)) [
      | inr differ ↦ first_changed n i differ
      | inl same ↦ elim (value_cases (word a n i) (word between n i)) [
        | inr differ ↦ second_changed n i same differ
        | inl same' ↦ neither_changed n i same same'
      ]
    ]

    swapped : (c : Arrays) × second a k (over y c) × first c j (over x (arrays_of y))
    swapped =
        let same = same_arrays last (arrays_of y) (shape_on (shape_back behind.2.shape) changed'.shape) same_words in
        (between, in_front.1, subst (λ (d : Arrays). first between j (over x d)) same behind.1)

  -- from the same arrays, the second ends after the first as before it
  from_there : (a : Arrays) (j k : Counts) (x : End A) (y : End B) → first a j x → second a k y → (c : Arrays) × second (arrays_of x) k (over y c)
  from_there a j k x y run run' =
      let only = p.changes a j x run in
      let there = q.local a (arrays_of x) k y run' (record {
        shape = only.shape;
        words = λ n i o. sym (only.kept n i (λ m. apart.left n i m o));
      }) in
      (there.0, there.1)

  may_swap : MaySwap first second
  may_swap = record { swap = swapped; behind = from_there }

separate_back : {scope other : Scope} {r s : Regions} → AreSeparate scope r other s → AreSeparate other s scope r
separate_back h = record { left = λ a i m o. h.right a i o m; right = λ a i o m. h.left a i m o }

pub unordered : {A B : Type 0} (first : Arrays → Counts → End A → Type 0) (second : Arrays → Counts → End B → Type 0) (scope other : Scope) (f g : Frame)
    → IsWithin scope f first → IsWithin other g second → AreSeparate scope f.regions other g.regions → AreUnordered first second
unordered first second scope other f g p q apart = record {
  forth = may_swap first second scope other f g p q apart;
  back = may_swap second first other scope g f q p (separate_back apart);
}

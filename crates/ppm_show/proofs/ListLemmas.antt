-- Marks of all that lists have: of a range of lists, and of the lists of what is marked.
use Rattle.std.proofs.Common.{◌≡◌, ◌∙◌, ◌<◌, ◌≤◌, ◌+◌, ℕ, zero, suc, List, [], ◌∷◌, ◌++◌, Bool, true, false, ◌||◌, ◌&&◌, ◌⊎◌, inl, inr, cond, eqb, length, map, get_or, replicate, Some, sym, ap, subst, refl, arith}
use Rattle.std.specs.List.{slice_get, list_any, flat_map, range_with_len}
use Rattle.std.specs.Option.{option_map}
use Rattle.std.proofs.lemmas.Bool.{false≢true, eqb-true, eq-eqb, or_cases, or_left, or_right, and_parts, and_from, cases_lt}
use Rattle.std.proofs.lemmas.Bool.Decides.{same_from_decides}
use Rattle.std.proofs.lemmas.List.{ext_get_or, flat_map_more, get_or-replicate, length-replicate}
use Rattle.std.proofs.lemmas.List.Concat.{flat_map-cons}
use Rattle.std.proofs.lemmas.List.Folds.{list_any-append, list_any_at}
use Rattle.std.proofs.lemmas.List.FromFn.{get_or-map-range_with_len, get_or-range_with_len, length-map-range_with_len, length-range_with_len}
use Rattle.std.proofs.lemmas.Option.{get_or_from_slice_get, slice_get-get_or}
use Rattle.ppm_show.specs.Paths.{is_in, AreMoreMarked}
use Rattle.ppm_show.proofs.MarkLemmas.{Marked, no_more, more_after}

-- two tests that follow from each other
same_test : (a b : Bool) → (a ≡ true → b ≡ true) → (b ≡ true → a ≡ true) → a ≡ b
same_test a b to from = same_from_decides {P = a ≡ true} a b (λ e. e, λ e. e) (from, to)

range_from : (a n : ℕ) → range_with_len a (suc n) ≡ range_with_len a n ++ (a + n) ∷ []
range_from a zero = let is : a ≡ a + 0 = omega arith in ap (λ k. k ∷ []) is
range_from a (suc n) =
    let next : a + 1 + n ≡ a + suc n = omega arith in
    ap (λ xs. a ∷ xs) (range_from (a + 1) n ∙ ap (λ k. range_with_len (a + 1) n ++ k ∷ []) next)

-- the numbers from 0 on, and one more
range_more : (n : ℕ) → range_with_len 0 (n + 1) ≡ range_with_len 0 n ++ n ∷ []
range_more n =
    let up : n + 1 ≡ suc n = omega arith in
    let last : 0 + n ≡ n = omega arith in
    ap (range_with_len 0) up ∙ range_from 0 n ∙ ap (λ k. range_with_len 0 n ++ k ∷ []) last

-- the lists of one number more are marked
pub range_marked : (f : ℕ → List ℕ) (n : ℕ) (old now new : List Bool) → AreMoreMarked (flat_map f (range_with_len 0 n)) old now
    → AreMoreMarked (f n) now new → AreMoreMarked (flat_map f (range_with_len 0 (n + 1))) old new
range_marked f n old now new before more =
    subst (λ p. AreMoreMarked p old new) (flat_map_more f [] (range_with_len 0 n) n ∙ ap (flat_map f) (sym (range_more n)))
    (more_after (flat_map f (range_with_len 0 n)) (f n) old now new before more)

-- what is marked of nothing marked before
pub mark_at : (xs : List ℕ) (n : ℕ) (ms : List Bool) → AreMoreMarked xs (replicate n false) ms → (at : ℕ) → at < n → slice_get ms at ≡ Some (is_in xs at)
mark_at xs n ms more at within =
    more.marks at
    ∙ ap (option_map (Marked xs at)) (slice_get-get_or (replicate n false) at false (omega (arith, length-replicate n false, within))
    ∙ ap Some (get_or-replicate n at false false within))

-- the marks of a list, where none was set before
pub marks_are : (xs : List ℕ) (n : ℕ) (ms : List Bool) → AreMoreMarked xs (replicate n false) ms → ms ≡ map (is_in xs) (range_with_len 0 n)
marks_are xs n ms more =
    ext_get_or false ms (map (is_in xs) (range_with_len 0 n)) (count ∙ sym (length-map-range_with_len (is_in xs) 0 n)) each
  where
    count : length ms ≡ n
    count = more.count ∙ length-replicate n false

    each : (i : ℕ) → i < length ms → get_or ms i false ≡ get_or (map (is_in xs) (range_with_len 0 n)) i false
    each i within =
        let below : i < n = omega (arith, count, within) in
        get_or_from_slice_get ms i (is_in xs i) false (mark_at xs n ms more i below)
        ∙ sym (get_or-map-range_with_len (is_in xs) 0 n i i false below (omega arith))

-- an element that passes, of a list in which some does
abbrev Passing : (p : ℕ → Bool) (xs : List ℕ) → Type 0
Passing p xs = (x : ℕ) × (is_in xs x ≡ true) × (p x ≡ true)

found_by : (p : ℕ → Bool) (y : ℕ) (ys : List ℕ) → (list_any p ys ≡ true → Passing p ys) → (p y ≡ true) ⊎ (list_any p ys ≡ true) → Passing p (y ∷ ys)
found_by p y ys rest (inl here) = (y, or_left (eqb y y) (is_in ys y) (eq-eqb y y refl), here)
found_by p y ys rest (inr later) = let it = rest later in (it.0, or_right (eqb y it.0) (is_in ys it.0) it.1, it.2)

found : (p : ℕ → Bool) (xs : List ℕ) → list_any p xs ≡ true → Passing p xs
found p [] any = absurd (false≢true any)
found p (y ∷ ys) any = found_by p y ys (found p ys) (or_cases (p y) (list_any p ys) any)

-- some element passes if one does
meets_by : (p : ℕ → Bool) (y : ℕ) (ys : List ℕ) (x : ℕ) → p x ≡ true → (is_in ys x ≡ true → list_any p ys ≡ true)
    → (eqb y x ≡ true) ⊎ (is_in ys x ≡ true) → list_any p (y ∷ ys) ≡ true
meets_by p y ys x passes rest (inl here) = or_left (p y) (list_any p ys) (ap p (eqb-true y x here) ∙ passes)
meets_by p y ys x passes rest (inr later) = or_right (p y) (list_any p ys) (rest later)

meets : (p : ℕ → Bool) (xs : List ℕ) (x : ℕ) → is_in xs x ≡ true → p x ≡ true → list_any p xs ≡ true
meets p [] x among passes = absurd (false≢true among)
meets p (y ∷ ys) x among passes =
    meets_by p y ys x passes (λ later. meets p ys x later passes) (or_cases (eqb y x) (is_in ys x) among)

-- a number is in the range below a greater one
in_range : (n x : ℕ) → x < n → is_in (range_with_len 0 n) x ≡ true
in_range n x below =
    list_any_at (λ b. eqb b x) (range_with_len 0 n) x 0 (omega (arith, length-range_with_len 0 n, below))
    (eq-eqb (get_or (range_with_len 0 n) x 0) x (get_or-range_with_len 0 n x 0 below ∙ zero_more))
  where
    zero_more : 0 + x ≡ x
    zero_more = omega arith

-- some element of a list passes exactly if some number of the range does that is in the list, where no greater one passes
any_in_range : (p : ℕ → Bool) (xs : List ℕ) (n : ℕ) → ((x : ℕ) → n ≤ x → p x ≡ false)
    → list_any (λ x. is_in xs x && p x) (range_with_len 0 n) ≡ list_any p xs
any_in_range p xs n none = same_test (list_any both (range_with_len 0 n)) (list_any p xs) to from
  where
    both : ℕ → Bool
    both x = is_in xs x && p x

    to : list_any both (range_with_len 0 n) ≡ true → list_any p xs ≡ true
    to any =
        let it = found both (range_with_len 0 n) any in
        let parts = and_parts (is_in xs it.0) (p it.0) it.2 in
        meets p xs it.0 parts.0 parts.1

    from : list_any p xs ≡ true → list_any both (range_with_len 0 n) ≡ true
    from any = let it = found p xs any in by it.0 it.1 it.2 (cases_lt it.0 n)
      where
        by : (x : ℕ) → is_in xs x ≡ true → p x ≡ true → (x < n) ⊎ (n ≤ x) → list_any both (range_with_len 0 n) ≡ true
        by x among passes (inl below) = meets both (range_with_len 0 n) x (in_range n x below) (and_from (is_in xs x) (p x) among passes)
        by x among passes (inr above) = absurd (false≢true (sym (none x above) ∙ passes))

-- whether an address is in one of the lists
is_in_lists : (f : ℕ → List ℕ) (xs : List ℕ) (at : ℕ) → is_in (flat_map f xs) at ≡ list_any (λ x. is_in (f x) at) xs
is_in_lists f [] at = refl
is_in_lists f (x ∷ xs) at =
    ap (λ l. is_in l at) (flat_map-cons f x xs) ∙ list_any-append (λ b. eqb b at) (f x) (flat_map f xs)
    ∙ ap (λ t. is_in (f x) at || t) (is_in_lists f xs at)

-- the list of an element, if it passes
abbrev pub list_if : (xs : List ℕ) (f : ℕ → List ℕ) (x : ℕ) → List ℕ
list_if xs f x = cond (is_in xs x) (f x) []

-- where it passes, its list is marked
pub if_marked : (xs : List ℕ) (f : ℕ → List ℕ) (at : ℕ) (old new : List Bool) → is_in xs at ≡ true → AreMoreMarked (f at) old new
    → AreMoreMarked (list_if xs f at) old new
if_marked xs f at old new passes more = subst (λ b. AreMoreMarked (cond b (f at) []) old new) (sym passes) more

-- and nothing else
pub if_unmarked : (xs : List ℕ) (f : ℕ → List ℕ) (at : ℕ) (ms : List Bool) → is_in xs at ≡ false → AreMoreMarked (list_if xs f at) ms ms
if_unmarked xs f at ms fails = subst (λ b. AreMoreMarked (cond b (f at) []) ms ms) (sym fails) (no_more ms)

-- whether an address is in such a list
is_in_if : (b : Bool) (ys : List ℕ) (at : ℕ) → is_in (cond b ys []) at ≡ (b && is_in ys at)
is_in_if true ys at = refl
is_in_if false ys at = refl

-- the lists of a range, of those that are in a list, are the lists of that list
same_lists : (f : ℕ → List ℕ) (xs : List ℕ) (n : ℕ) → ((x : ℕ) → n ≤ x → f x ≡ []) → (at : ℕ)
    → is_in (flat_map (list_if xs f) (range_with_len 0 n)) at ≡ is_in (flat_map f xs) at
same_lists f xs n none at =
    is_in_lists (list_if xs f) (range_with_len 0 n) at
    ∙ (λ i. list_any (λ x. is_in_if (is_in xs x) (f x) at i) (range_with_len 0 n))
    ∙ any_in_range (λ x. is_in (f x) at) xs n (λ x above. ap (λ l. is_in l at) (none x above))
    ∙ sym (is_in_lists f xs at)

-- the marks of a list and of the lists of its elements
pub all_are : (f : ℕ → List ℕ) (xs : List ℕ) (n : ℕ) (on ms : List Bool) → ((x : ℕ) → n ≤ x → f x ≡ []) → AreMoreMarked xs (replicate n false) on
    → AreMoreMarked (flat_map (list_if xs f) (range_with_len 0 n)) on ms → ms ≡ map (is_in (xs ++ flat_map f xs)) (range_with_len 0 n)
all_are f xs n on ms none first second =
    marks_are (xs ++ flat_map (list_if xs f) (range_with_len 0 n)) n ms
    (more_after xs (flat_map (list_if xs f) (range_with_len 0 n)) (replicate n false) on ms first second)
    ∙ (λ i. map (λ at. same at i) (range_with_len 0 n))
  where
    same : (at : ℕ) → is_in (xs ++ flat_map (list_if xs f) (range_with_len 0 n)) at ≡ is_in (xs ++ flat_map f xs) at
    same at =
        list_any-append (λ b. eqb b at) xs (flat_map (list_if xs f) (range_with_len 0 n))
        ∙ ap (λ t. is_in xs at || t) (same_lists f xs n none at)
        ∙ sym (list_any-append (λ b. eqb b at) xs (flat_map f xs))

-- the mark of an address, where each has the one that says whether it is in the list
pub mark_of : (xs : List ℕ) (n at : ℕ) → at < n → slice_get (map (is_in xs) (range_with_len 0 n)) at ≡ Some (is_in xs at)
mark_of xs n at below =
    slice_get-get_or (map (is_in xs) (range_with_len 0 n)) at false (omega (arith, below, length-map-range_with_len (is_in xs) 0 n))
    ∙ ap Some (get_or-map-range_with_len (is_in xs) 0 n at at false below (omega arith))

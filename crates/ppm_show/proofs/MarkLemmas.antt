-- Lists of marks: how many are set, and marks that become more.
use Rattle.std.proofs.Common.{◌≡◌, ◌∙◌, ◌<◌, ◌≤◌, ◌+◌, ℕ, zero, suc, List, [], ◌∷◌, ◌++◌, Bool, true, false, ◌||◌, ◌⊎◌, inl, inr, length, Option, Some, None, sym, ap, refl, eqb, arith}
use Rattle.std.proofs.lemmas.Bool.{eq-eqb}
use Rattle.std.specs.List.{slice_get}
use Rattle.std.specs.Option.{option_map, unwrap_or}
use Rattle.std.proofs.lemmas.Bool.{false≢true}
use Rattle.std.proofs.lemmas.Option.{none-some}
use Rattle.std.proofs.lemmas.List.Folds.{list_any-append}
use Rattle.ppm_show.specs.Paths.{is_in, AreMoreMarked}

-- how many marks are set
abbrev pub set_marks : List Bool → ℕ
set_marks [] = 0
set_marks (true ∷ ms) = suc (set_marks ms)
set_marks (false ∷ ms) = set_marks ms

-- what an option has is determined
pub some_is : {A : Type 0} → {a b : A} → Some a ≡ Some b → a ≡ b
some_is {a = a} e = ap (λ o. unwrap_or o a) e

-- no more than there are
set_within : (ms : List Bool) → set_marks ms ≤ length ms
set_within [] = omega arith
set_within (true ∷ ms) = let rest = set_within ms in omega (arith, rest)
set_within (false ∷ ms) = let rest = set_within ms in omega (arith, rest)

-- where as many are set as there are, each is
pub all_set : (ms : List Bool) → length ms ≤ set_marks ms → (at : ℕ) → at < length ms → slice_get ms at ≡ Some true
all_set [] full at within = absurd (omega (arith, within))
all_set (true ∷ ms) full zero within = refl
all_set (true ∷ ms) full (suc at) within = all_set ms (omega (arith, full)) at (omega (arith, within))
all_set (false ∷ ms) full at within = let rest = set_within ms in absurd (omega (arith, full, rest))

-- marks that stay are no fewer
abbrev Stay : (old new : List Bool) → Type 0
Stay old new = (at : ℕ) → slice_get old at ≡ Some true → slice_get new at ≡ Some true

stay_rest : (o n : Bool) (old new : List Bool) → Stay (o ∷ old) (n ∷ new) → Stay old new
stay_rest o n old new stay at was = stay (suc at) was

no_fewer : (old new : List Bool) → length new ≡ length old → Stay old new → set_marks old ≤ set_marks new
no_fewer [] [] count stay = omega arith
no_fewer [] (n ∷ new) count stay = absurd (omega (arith, count))
no_fewer (o ∷ old) [] count stay = absurd (omega (arith, count))
no_fewer (true ∷ old) (true ∷ new) count stay =
    let rest = no_fewer old new (omega (arith, count)) (stay_rest true true old new stay) in omega (arith, rest)
no_fewer (true ∷ old) (false ∷ new) count stay = absurd (false≢true (some_is (stay 0 refl)))
no_fewer (false ∷ old) (true ∷ new) count stay =
    let rest = no_fewer old new (omega (arith, count)) (stay_rest false true old new stay) in omega (arith, rest)
no_fewer (false ∷ old) (false ∷ new) count stay = no_fewer old new (omega (arith, count)) (stay_rest false false old new stay)

-- with one that was not set they are one more
one_more : (old new : List Bool) → length new ≡ length old → Stay old new → (at : ℕ) → slice_get old at ≡ Some false → slice_get new at ≡ Some true
    → set_marks old + 1 ≤ set_marks new
one_more [] new count stay at was is = absurd (none-some false was)
one_more (o ∷ old) [] count stay at was is = absurd (omega (arith, count))
one_more (true ∷ old) (n ∷ new) count stay zero was is = absurd (false≢true (sym (some_is was)))
one_more (false ∷ old) (false ∷ new) count stay zero was is = absurd (false≢true (some_is is))
one_more (false ∷ old) (true ∷ new) count stay zero was is =
    let rest = no_fewer old new (omega (arith, count)) (stay_rest false true old new stay) in omega (arith, rest)
one_more (true ∷ old) (false ∷ new) count stay (suc at) was is = absurd (false≢true (some_is (stay 0 refl)))
one_more (true ∷ old) (true ∷ new) count stay (suc at) was is =
    let rest = one_more old new (omega (arith, count)) (stay_rest true true old new stay) at was is in omega (arith, rest)
one_more (false ∷ old) (true ∷ new) count stay (suc at) was is =
    let rest = one_more old new (omega (arith, count)) (stay_rest false true old new stay) at was is in omega (arith, rest)
one_more (false ∷ old) (false ∷ new) count stay (suc at) was is = one_more old new (omega (arith, count)) (stay_rest false false old new stay) at was is

-- a mark before and after: as it was, or as it is in the list
abbrev pub Marked : (blocks : List ℕ) (at : ℕ) → Bool → Bool
Marked blocks at was = was || is_in blocks at

-- marks that are set stay
pub more_stay : (blocks : List ℕ) (old new : List Bool) → AreMoreMarked blocks old new → Stay old new
more_stay blocks old new more at was = more.marks at ∙ ap (option_map (Marked blocks at)) was

-- one that is set after was set before, or is in the list
pub marked_cases : (blocks : List ℕ) (old new : List Bool) → AreMoreMarked blocks old new → (at : ℕ) → slice_get new at ≡ Some true
    → (slice_get old at ≡ Some true) ⊎ (is_in blocks at ≡ true)
marked_cases blocks old new more at is = cases (slice_get old at) refl
  where
    cases : (o : Option Bool) → slice_get old at ≡ o → (slice_get old at ≡ Some true) ⊎ (is_in blocks at ≡ true)
    cases None e = absurd (none-some true (sym (more.marks at ∙ ap (option_map (Marked blocks at)) e) ∙ is))
    cases (Some true) e = inl e
    cases (Some false) e = inr (some_is (sym (more.marks at ∙ ap (option_map (Marked blocks at)) e) ∙ is))

-- no more are marked
pub no_more : (ms : List Bool) → AreMoreMarked [] ms ms
no_more ms = record { count = refl; marks = λ at. same (slice_get ms at) }
  where
    same : (o : Option Bool) → o ≡ option_map (λ was. was || false) o
    same None = refl
    same (Some true) = refl
    same (Some false) = refl

-- more, and then more
pub more_after : (xs ys : List ℕ) (a b c : List Bool) → AreMoreMarked xs a b → AreMoreMarked ys b c → AreMoreMarked (xs ++ ys) a c
more_after xs ys a b c first second = record {
  count = second.count ∙ first.count;
  marks = λ at. second.marks at ∙ ap (option_map (Marked ys at)) (first.marks at) ∙ both at (slice_get a at);
}
  where
    joined : (x y was : Bool) → ((was || x) || y) ≡ (was || (x || y))
    joined x y true = refl
    joined x y false = refl

    both : (at : ℕ) (o : Option Bool) → option_map (Marked ys at) (option_map (Marked xs at) o) ≡ option_map (Marked (xs ++ ys) at) o
    both at None = refl
    both at (Some was) =
        ap Some (joined (is_in xs at) (is_in ys at) was ∙ ap (λ t. was || t) (sym (list_any-append (λ block. eqb block at) xs ys)))

-- none but such as are marked, or past the end
pub marked_before : (xs : List ℕ) (ms : List Bool) → ((at : ℕ) → slice_get ms at ≡ Some false → is_in xs at ≡ false) → AreMoreMarked xs ms ms
marked_before xs ms before = record { count = refl; marks = λ at. same at (slice_get ms at) refl }
  where
    same : (at : ℕ) (o : Option Bool) → slice_get ms at ≡ o → slice_get ms at ≡ option_map (Marked xs at) (slice_get ms at)
    same at None e = e ∙ ap (option_map (Marked xs at)) (sym e)
    same at (Some true) e = e ∙ ap (option_map (Marked xs at)) (sym e)
    same at (Some false) e = e ∙ ap Some (sym (before at e)) ∙ ap (option_map (Marked xs at)) (sym e)

-- it is set then
pub now_set : (at : ℕ) (old new : List Bool) → AreMoreMarked (at ∷ []) old new → slice_get old at ≡ Some false → slice_get new at ≡ Some true
now_set at old new more was =
    more.marks at ∙ ap (option_map (Marked (at ∷ []) at)) was ∙ ap (λ t. Some (t || false)) (eq-eqb at at refl)

-- a mark more
pub one_set : (at : ℕ) (old new : List Bool) → AreMoreMarked (at ∷ []) old new → slice_get old at ≡ Some false → set_marks old + 1 ≤ set_marks new
one_set at old new more was = one_more old new more.count (more_stay (at ∷ []) old new more) at was (now_set at old new more was)

-- A path while it is marked: all marks but the last one are closed, the path is what is marked and the rest from here on, and at least as many marks
-- are set as steps were made. So a path that meets a mark is marked whole, and one that makes as many steps as there are marks has set them all.
use Rattle.std.proofs.Common.{◌≡◌, ◌∙◌, ◌<◌, ◌≤◌, ◌+◌, ◌-◌, ℕ, zero, suc, List, [], ◌∷◌, ◌++◌, Bool, true, false, ◌⊎◌, inl, inr, length, get_or, Option, Some, None, sym, ap, subst, refl, eqb, arith}
use Rattle.std.specs.List.{slice_get}
use Rattle.std.proofs.lemmas.Bool.{false≢true, ne_eqb, eqb-true, or_cases, or_from, cases_lt}
use Rattle.std.proofs.lemmas.List.{append_assoc}
use Rattle.std.proofs.lemmas.Option.{none-some, slice_get_within, slice_get-get_or}
use Rattle.ppm_show.specs.Paths.{path, is_in, AreMoreMarked, IsClosed}
use Rattle.ppm_show.proofs.MarkLemmas.{set_marks, all_set, some_is, no_more, more_after, marked_before, marked_cases, more_stay, now_set, one_set}

-- what leads nowhere has no path
path_of_none : (next : ℕ → Option ℕ) (most : ℕ) → path next most None ≡ []
path_of_none next zero = refl
path_of_none next (suc most) = refl

-- an address that waits for no mark
abbrev pub IsDone : List Bool → Option ℕ → Type 0
IsDone ms from = (at : ℕ) → from ≡ Some at → slice_get ms at ≡ Some false → ⊥

-- what lies past the marks leads nowhere
abbrev pub EndsPast : (next : ℕ → Option ℕ) → List Bool → Type 0
EndsPast next ms = (at : ℕ) → length ms ≤ at → next at ≡ None

-- a mark, if there is one
mark_cases : (ms : List Bool) (at : ℕ) → (slice_get ms at ≡ None) ⊎ ((slice_get ms at ≡ Some true) ⊎ (slice_get ms at ≡ Some false))
mark_cases ms at = cases (slice_get ms at)
  where
    cases : (o : Option Bool) → (o ≡ None) ⊎ ((o ≡ Some true) ⊎ (o ≡ Some false))
    cases None = inl refl
    cases (Some true) = inr (inl refl)
    cases (Some false) = inr (inr refl)

-- each address below the count has a mark
there : (ms : List Bool) (at : ℕ) → at < length ms → slice_get ms at ≡ None → ⊥
there ms at within past = none-some (get_or ms at false) (sym past ∙ slice_get-get_or ms at false within)

-- what is marked leads to what is marked
done_next : (next : ℕ → Option ℕ) (ms : List Bool) → IsClosed next ms → EndsPast next ms → (at : ℕ) → IsDone ms (Some at) → IsDone ms (next at)
done_next next ms closed ends at done to leads unset = by (mark_cases ms at)
  where
    by : (slice_get ms at ≡ None) ⊎ ((slice_get ms at ≡ Some true) ⊎ (slice_get ms at ≡ Some false)) → ⊥
    by (inl past) = by_length (cases_lt at (length ms))
      where
        by_length : (at < length ms) ⊎ (length ms ≤ at) → ⊥
        by_length (inl within) = there ms at within past
        by_length (inr beyond) = none-some to (sym (ends at beyond) ∙ leads)
    by (inr (inl set)) = false≢true (some_is (sym unset ∙ closed at to set leads (slice_get_within ms to false unset)))
    by (inr (inr not_set)) = done at refl not_set

-- the path from what is marked is marked
unset_apart : (next : ℕ → Option ℕ) (ms : List Bool) → IsClosed next ms → EndsPast next ms → (most : ℕ) (from : Option ℕ) → IsDone ms from
    → (at : ℕ) → slice_get ms at ≡ Some false → is_in (path next most from) at ≡ false
unset_apart next ms closed ends zero from done at unset = refl
unset_apart next ms closed ends (suc most) None done at unset = refl
unset_apart next ms closed ends (suc most) (Some here) done at unset =
    or_from (eqb here at) (is_in (path next most (next here)) at)
    (ne_eqb here at (λ same. done here refl (ap (slice_get ms) same ∙ unset)))
    (unset_apart next ms closed ends most (next here) (done_next next ms closed ends here done) at unset)

-- a path that is marked so many steps far, up to here
pub record IsMarkedTo (next : ℕ → Option ℕ) (from : Option ℕ) (old new : List Bool) (here : Option ℕ) (steps : ℕ) : Type 0 where
  pub so_far : AreMoreMarked (path next steps from) old new
  pub rest : (k : ℕ) → path next (steps + k) from ≡ path next steps from ++ path next k here
  pub closed : (at to : ℕ) → slice_get new at ≡ Some true → next at ≡ Some to → to < length new → (slice_get new to ≡ Some true) ⊎ (here ≡ Some to)
  pub set : steps ≤ set_marks new

-- at its beginning
pub path_begins : (next : ℕ → Option ℕ) (from : Option ℕ) (old : List Bool) → IsClosed next old → IsMarkedTo next from old old from 0
path_begins next from old closed = record {
  so_far = no_more old;
  rest = λ k. let is : 0 + k ≡ k = omega arith in ap (λ n. path next n from) is;
  closed = λ at to set leads within. inl (closed at to set leads within);
  set = omega arith;
}

-- a step more: what is here is marked
pub path_goes_on : (next : ℕ → Option ℕ) (from : Option ℕ) (old marks new : List Bool) (here steps : ℕ) → IsMarkedTo next from old marks (Some here) steps
    → slice_get marks here ≡ Some false → AreMoreMarked (here ∷ []) marks new → IsMarkedTo next from old new (next here) (steps + 1)
path_goes_on next from old marks new here steps is unset more = record {
  so_far = subst (λ p. AreMoreMarked p old new) (sym one) (more_after (path next steps from) (here ∷ []) old marks new is.so_far more);
  rest = λ k.
      let count : steps + 1 + k ≡ steps + suc k = omega arith in
      ap (λ n. path next n from) count ∙ is.rest (suc k) ∙ sym (append_assoc (path next steps from) (here ∷ []) (path next k (next here)))
      ∙ ap (λ p. p ++ path next k (next here)) (sym one);
  closed = λ at to set leads within. closed_by at to leads within (marked_cases (here ∷ []) marks new more at set);
  set = let one_more = one_set here marks new more unset in let before = is.set in omega (arith, one_more, before);
}
  where
    one : path next (steps + 1) from ≡ path next steps from ++ here ∷ []
    one = is.rest 1

    kept : (to : ℕ) → (slice_get marks to ≡ Some true) ⊎ (Some here ≡ Some to) → slice_get new to ≡ Some true
    kept to (inl set) = more_stay (here ∷ []) marks new more to set
    kept to (inr same) = ap (slice_get new) (sym (some_is same)) ∙ now_set here marks new more unset

    closed_by : (at to : ℕ) → next at ≡ Some to → to < length new → (slice_get marks at ≡ Some true) ⊎ (is_in (here ∷ []) at ≡ true)
        → (slice_get new to ≡ Some true) ⊎ (next here ≡ Some to)
    closed_by at to leads within (inl set) = inl (kept to (is.closed at to set leads (subst (λ n. to < n) more.count within)))
    closed_by at to leads within (inr now) = inr (ap next (only (or_cases (eqb here at) false now)) ∙ leads)
      where
        only : (eqb here at ≡ true) ⊎ (false ≡ true) → here ≡ at
        only (inl same) = eqb-true here at same
        only (inr never) = absurd (false≢true never)

-- the marks when a path is over
pub record IsMarkedWhole (next : ℕ → Option ℕ) (count : ℕ) (from : Option ℕ) (old new : List Bool) : Type 0 where
  pub closed : IsClosed next new
  pub marked : AreMoreMarked (path next count from) old new

closed_at : (next : ℕ → Option ℕ) (from : Option ℕ) (old new : List Bool) (here : Option ℕ) (steps : ℕ) → IsMarkedTo next from old new here steps
    → IsDone new here → IsClosed next new
closed_at next from old new here steps is done at to set leads within = by (is.closed at to set leads within)
  where
    by : (slice_get new to ≡ Some true) ⊎ (here ≡ Some to) → slice_get new to ≡ Some true
    by (inl marked) = marked
    by (inr last) = of (mark_cases new to)
      where
        of : (slice_get new to ≡ None) ⊎ ((slice_get new to ≡ Some true) ⊎ (slice_get new to ≡ Some false)) → slice_get new to ≡ Some true
        of (inl past) = absurd (there new to within past)
        of (inr (inl marked)) = marked
        of (inr (inr unset)) = absurd (done to last unset)

-- it has come to what is marked, or to its end
pub path_is_over : (next : ℕ → Option ℕ) (count : ℕ) (from : Option ℕ) (old new : List Bool) (here : Option ℕ) (steps : ℕ)
    → IsMarkedTo next from old new here steps → EndsPast next new → steps ≤ count → IsDone new here → IsMarkedWhole next count from old new
path_is_over next count from old new here steps is ends within done = record {
  closed = closed;
  marked = subst (λ p. AreMoreMarked p old new) (sym whole)
      (more_after (path next steps from) rest old new new is.so_far (marked_before rest new (unset_apart next new closed ends (count - steps) here done)));
}
  where
    closed : IsClosed next new
    closed = closed_at next from old new here steps is done

    rest : List ℕ
    rest = path next (count - steps) here

    whole : path next count from ≡ path next steps from ++ path next (count - steps) here
    whole =
        let n : count ≡ steps + (count - steps) = omega (arith, within) in
        ap (λ n. path next n from) n ∙ is.rest (count - steps)

-- it has made as many steps as there are marks
pub path_is_all : (next : ℕ → Option ℕ) (count : ℕ) (from : Option ℕ) (old new : List Bool) (here : Option ℕ)
    → IsMarkedTo next from old new here count → length new ≡ count → IsMarkedWhole next count from old new
path_is_all next count from old new here is long = record {
  closed = λ at to set leads within. all_set new (let before = is.set in omega (arith, before, long)) to within;
  marked = is.so_far;
}

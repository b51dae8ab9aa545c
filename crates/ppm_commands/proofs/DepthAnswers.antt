-- A text has one answer where its case is run depth first.
use Rattle.std.proofs.Common.{◌≡◌, ◌⊎◌, ℕ, List, length, refl, sym, ◌∙◌, ap, ap₂, subst, inl, inr, arith}
use Rattle.ppm_strands.specs.Run.{End}
use Rattle.ppm_strands.proofs.RunLemmas.{one_end}
use Rattle.ppm_words.specs.declared.named_array.NamedArray.{NamedArray}
use Rattle.ppm_words.specs.declared.outcome.Outcome.{Outcome}
use Rattle.ppm_words.specs.declared.outcome.Outcome.TheVariants as outcome
use Rattle.ppm_code.specs.declared.code.CodeParts.{CodeParts}
use Rattle.ppm_code.specs.Inputs.{words_in}
use Rattle.ppm_code.specs.Strands.{Result, Gave, Trapped}
use Rattle.ppm_code.specs.Tidy.{IsTidy}
use Rattle.ppm_depth.specs.declared.depth.DepthRun.{DepthRun}
use Rattle.ppm_depth.specs.Run.{strands_of, said_of, pool_words, ComesTo, IsWithin, IsDepthRun, RunsAreThere}
use Rattle.ppm_depth.specs.Start.{words_of, root_strand}
use Rattle.ppm_case.specs.Correct.{FaultsTellCases, HasCase}
use Rattle.ppm_answers.specs.declared.case.UntidyStore.{UntidyStore}
use Rattle.ppm_answers.specs.declared.counts.Counts.{Counts}
use Rattle.ppm_answers.specs.declared.answer.Answer.{Answer}
use Rattle.ppm_answers.specs.declared.answer.Answer.TheVariants as answers
use Rattle.ppm_loading.specs.Telling.{IsUntidy, counts_told, store_told}
use Rattle.ppm_commands.specs.Depth.{EndsWithin, DepthOf, DepthMayOf, DepthHas, HaveOneAnswer, answer_by, run_answer}
use Rattle.ppm_loading.specs.Telling.{GoesOn}
use Rattle.ppm_commands.proofs.CaseAnswers as case_answers
use Rattle.ppm_loading.proofs.FirstStore.{one_told, none_told}
use Rattle.ppm_loading.proofs.TidyLemmas.{all_are}

module _ (code : CodeParts) (input : List NamedArray) where
  -- the depth-first run has one end
  pub same_end : (d e : End Result) → ComesTo code input d → ComesTo code input e → d ≡ e
  same_end d e p q = one_end (strands_of code input) (root_strand code input) (words_of (words_in input)) d e p q

  module _ (limit : ℕ) (r s : DepthRun) (p : IsWithin code input limit r) (q : IsWithin code input limit s) where
    same : p.end ≡ q.end
    same = same_end p.end q.end p.comes q.comes

    -- two answers of runs within a limit are one
    pub one_run : r ≡ s
    one_run =
        let o = p.outcome ∙ ap (λ (e : End Result). said_of input e.words e.outcome) same ∙ sym q.outcome in
        let c = p.counts.capsules ∙ ap (λ (e : End Result). e.counts.capsules) same ∙ sym q.counts.capsules in
        let f = p.counts.forks ∙ ap (λ (e : End Result). e.counts.forks) same ∙ sym q.counts.forks in
        let w = p.counts.pool_words ∙ ap (λ (e : End Result). pool_words code e.counts) same ∙ sym q.counts.pool_words in
        λ i. record { outcome = o i; capsules = c i; forks = f i; pool_words = w i }

  module _ (capsules : ℕ) where
    -- what a run comes to, that it goes on, or a store that is not tidy
    abbrev IsEnds : Answer → Type 0
    IsEnds a = (o : Outcome) × (k : Counts) × EndsWithin capsules code input o k × (a ≡ answer_by capsules o k)

    abbrev IsOns : Answer → Type 0
    IsOns a = GoesOn capsules code input × (a ≡ answers.NotWithinCapsules capsules)

    abbrev IsStores : Answer → Type 0
    IsStores a = (u : UntidyStore) × IsUntidy code input u × (a ≡ answers.Untidy u)

    -- each answer of a case is one of these
    of_case : (a : Answer) → DepthOf capsules code input a → IsEnds a ⊎ (IsOns a ⊎ IsStores a)
    of_case (answers.Counted arrays k) h = inl (outcome.Ended arrays, k, h, refl)
    of_case (answers.TrappedAfter t line k) h = inl (outcome.Trapped t line, k, h, refl)
    of_case (answers.NotWithinCapsules n) h = inr (inl (h.1, ap (λ m. answers.NotWithinCapsules m) h.0))
    of_case (answers.Untidy u) h = inr (inr (u, h, refl))
    of_case a h = absurd h

    -- a run that ends does not go on
    not_on : (o : Outcome) (k : Counts) → EndsWithin capsules code input o k → GoesOn capsules code input → ⊥
    not_on o k h g = let more = g.more.more h.within.end h.within.comes in omega (arith, more, h.within.within)

    one_ending : (a b : Answer) → IsEnds a → IsEnds b → a ≡ b
    one_ending a b (o, k, h, e) (p, l, j, f) =
        let run = one_run capsules h.run j.run h.within j.within in
        let outcomes : o ≡ p = sym h.outcome ∙ ap (λ (r : DepthRun). r.outcome) run ∙ j.outcome in
        let counts : k ≡ l = h.counts ∙ ap counts_told run ∙ sym j.counts in
        e ∙ ap₂ (answer_by capsules) outcomes counts ∙ sym f

    one_of : (a b : Answer) → DepthOf capsules code input a → DepthOf capsules code input b → a ≡ b
    one_of a b h k = go (of_case a h) (of_case b k)
      where
        go : IsEnds a ⊎ (IsOns a ⊎ IsStores a) → IsEnds b ⊎ (IsOns b ⊎ IsStores b) → a ≡ b
        go (inl x) (inl y) = one_ending a b x y
        go (inl (o, k, x, e)) (inr (inl (g, f))) = absurd (not_on o k x g)
        go (inl (o, k, x, e)) (inr (inr (u, s, f))) = absurd (none_told code input u s x.tidy)
        go (inr (inl (g, e))) (inl (o, k, x, f)) = absurd (not_on o k x g)
        go (inr (inl (g, e))) (inr (inl (h, f))) = e ∙ sym f
        go (inr (inl (g, e))) (inr (inr (u, s, f))) = absurd (none_told code input u s g.tidy)
        go (inr (inr (u, s, e))) (inl (o, k, x, f)) = absurd (none_told code input u s x.tidy)
        go (inr (inr (u, s, e))) (inr (inl (g, f))) = absurd (none_told code input u s g.tidy)
        go (inr (inr (u, s, e))) (inr (inr (v, t, f))) = e ∙ ap (λ x. answers.Untidy x) (one_told code input u v s t) ∙ sym f

    -- a run that ends comes to arrays or to a trap
    never_open : (e : End Result) → said_of input e.words e.outcome ≡ outcome.NotWithin → ⊥
    never_open e = by e.outcome
      where
        by : (r : Result) → said_of input e.words r ≡ outcome.NotWithin → ⊥
        by (Gave value) p = cc
        by (Trapped t line) p = cc

    -- the answer of a run is one of the case
    pub run_may : (r : DepthRun) → IsTidy code → IsDepthRun code input capsules r → DepthMayOf capsules code input (run_answer capsules r)
    run_may r tidy (inl w) = by r.outcome refl
      where
        by : (o : Outcome) → r.outcome ≡ o → DepthMayOf capsules code input (answer_by capsules o (counts_told r))
        by (outcome.Ended arrays) e = record { tidy = tidy; run = r; within = w; outcome = e; counts = refl }
        by (outcome.Trapped t line) e = record { tidy = tidy; run = r; within = w; outcome = e; counts = refl }
        by outcome.NotWithin e = absurd (never_open w.end (sym w.outcome ∙ e))
    run_may r tidy (inr n) = subst (λ o. DepthMayOf capsules code input (answer_by capsules o (counts_told r))) (sym n.outcome)
        (refl, record { tidy = tidy; run = r; more = n })

module _ (capsules : ℕ) (text : List ℕ) (case : HasCase text) where
  -- the answer of a tidy case, by its run
  run_has : (r : DepthRun) → IsTidy case.code → IsDepthRun case.code case.input capsules r → (a : Answer) × DepthHas capsules text a
  run_has r tidy (inl w) = by r.outcome refl
    where
      by : (o : Outcome) → r.outcome ≡ o → (a : Answer) × DepthHas capsules text a
      by (outcome.Ended arrays) e =
          (answers.Counted arrays (counts_told r), (case, record { tidy = tidy; run = r; within = w; outcome = e; counts = refl }))
      by (outcome.Trapped t line) e =
          (answers.TrappedAfter t line (counts_told r), (case, record { tidy = tidy; run = r; within = w; outcome = e; counts = refl }))
      by outcome.NotWithin e = absurd (never_open case.code case.input capsules w.end (sym w.outcome ∙ e))
  run_has r tidy (inr n) = (answers.NotWithinCapsules capsules, (case, (refl, record { tidy = tidy; run = r; more = n })))

  -- a case without an untidy store is tidy, and has a run
  case_has_one : RunsAreThere → ((u : UntidyStore) → ¬ DepthHas capsules text (answers.Untidy u)) → (a : Answer) × DepthHas capsules text a
  case_has_one there no_store =
      let tidy = all_are case.code
      (λ s f. no_store (store_told (length case.input) case.code s) (case, record { store = s; first = f; tells = refl })) in
      let it = there case.code case.input capsules in
      run_has it.run tidy it.is

-- `depth` has one answer, whatever the number of capsules
pub have_one_answer : FaultsTellCases → RunsAreThere → HaveOneAnswer
have_one_answer law there capsules = record {
  one = case_answers.one (DepthOf capsules) law (λ code input. one_of code input capsules);
  front = case_answers.front (DepthOf capsules) law;
  some = λ text no_input no_listing no_store.
      case_has_one capsules text (case_answers.has_case (DepthOf capsules) law text no_input no_listing) there no_store;
}

-- The answers that a saved text has where it is resumed and what is counted is told.
use Rattle.std.proofs.Common.{◌≡◌, ◌≢◌, ◌∙◌, ◌<◌, ℕ, List, [], ◌++◌, length, Option, None, arith, refl, sym, ap, subst}
use Rattle.ppm_words.specs.declared.event.Event.{Event}
use Rattle.ppm_words.specs.declared.named_array.NamedArray.{NamedArray}
use Rattle.ppm_cells.specs.Finish.{finish_of}
use Rattle.ppm_cells.specs.declared.shape.Shape.{Shape}
use Rattle.ppm_code.specs.Code.{IsCode}
use Rattle.ppm_core.specs.Situation.{Situation, loaded}
use Rattle.ppm_plan.specs.declared.plan_error.PlanError.{PlanError}
use Rattle.ppm_plan.specs.declared.plan_error.PlanError.TheVariants as plan_errors
use Rattle.ppm_plan.specs.declared.plan_item.PlanItem.{PlanItem}
use Rattle.ppm_plan.specs.Forms.{plan_form}
use Rattle.ppm_plan.specs.Refusals.{IsAccepted, IsKeeper, IsRefused}
use Rattle.ppm_plan.specs.Schedules.{Planned}
use Rattle.ppm_step.specs.declared.turn.Turn.{Turn}
use Rattle.ppm_choice.specs.declared.limits.Limits.{Limits}
use Rattle.ppm_choice.specs.Finishes.{Finishes}
use Rattle.ppm_choice.specs.Obeying.{ObeyAll}
use Rattle.ppm_choice.proofs.EndLemmas.{runs_finish}
use Rattle.ppm_saved.specs.Names.{lengths_of}
use Rattle.ppm_saved.specs.Renewal.{AreRenewed, IsRenewalOf}
use Rattle.ppm_saved.specs.declared.names.NamedLength.{NamedLength}
use Rattle.ppm_saved.specs.declared.renewal.Renewed.{Renewed}
use Rattle.ppm_saved.specs.declared.saved.Saved.{Saved}
use Rattle.ppm_saved_reader.specs.Correct.{IsRefusal}
use Rattle.ppm_saved_reader.specs.Rules.{saved_limit}
use Rattle.ppm_saved_reader.specs.declared.saved_error.SavedError.{SavedError}
use Rattle.ppm_saved_reader.specs.declared.saved_error.SavedError.TheVariants as errors
use Rattle.ppm_answers.specs.declared.answer.Answer.{Answer}
use Rattle.ppm_answers.specs.declared.answer.Answer.TheVariants as answers
use Rattle.ppm_answers.specs.declared.ran.Ran.{Ran}
use Rattle.ppm_answers.specs.declared.run_counts.RunCounts.{RunCounts}
use Rattle.ppm_answers.specs.Reading.{TextMay, FrontsDecide}
use Rattle.ppm_cli.specs.declared.resume.ResumeOptions.{ResumeOptions}
use Rattle.ppm_loading.specs.Planned.{refusal_of as plan_refusal}
use Rattle.ppm_loading.specs.Programs.{ProgramMay}
use Rattle.ppm_loading.specs.Says.{IsTheOne}
use Rattle.ppm_table.specs.declared.act_counts.ActCounts.{ActCounts}
use Rattle.ppm_table.specs.Closed.{Closing}
use Rattle.ppm_table.specs.Counting.{TellsTurns}
use Rattle.ppm_table.specs.Shown.{opening_of}
use Rattle.ppm_table.specs.declared.processor.Shared.{Shared}
use Rattle.ppm_table.specs.declared.view.Opening.{Opening}
use Rattle.ppm_threads.specs.Driven.{DrivenCounted}
use Rattle.ppm_outcomes.specs.CountedResumes.{IsCounted, ItemsHave, StateHas, TextHas}
use Rattle.ppm_outcomes.specs.CountedRuns.{answer_of}
use Rattle.ppm_outcomes.specs.Resumes.{SavedState, saved_finish, IsTextOf, named, limits_of, plan_of, ResumedHas, refusal_of, state_of}
use Rattle.ppm_outcomes.specs.RunCounts.{counts_told, made_counts}
use Rattle.ppm_outcomes.specs.RunOf.{words_behind, finish_behind}
use Rattle.ppm_outcomes.specs.Runs.{IsSaid}
use Rattle.ppm_outcomes.specs.Strikes.{fault_count}
use Rattle.ppm_outcomes.proofs.ResumeLemmas as resumes
use Rattle.ppm_outcomes.proofs.ResumeLemmas.{same_plan, some_said}

module _ (options : ResumeOptions) (plan : List ℕ) where
  -- the answer of a run is one by the items of the plan, and memory may be wanting; with a plan that is accepted it is one of the state
  pub state_may : (z : SavedState) (items : List PlanItem) → IsAccepted plan_form plan z.shape.processors items → (a : Answer)
      → ProgramMay (ItemsHave options items z) a → ProgramMay (StateHas options plan z) a
  state_may z items accepted answers.NoMemory h = tt
  state_may z items accepted (answers.RanWith r n) h = record { items = items; accepted = accepted; has = h }
  state_may z items accepted (answers.Broken place) h = record { items = items; accepted = accepted; has = h }
  state_may z items accepted a h = absurd h

  -- with one that is refused
  pub refused_plan : (z : SavedState) (error : PlanError) → IsRefused plan_form plan z.shape.processors error
      → ProgramMay (StateHas options plan z) (plan_refusal error)
  refused_plan z (plan_errors.BadItem n) r = record { error = plan_errors.BadItem n; of_text = refl; refused = r; number_is = refl }
  refused_plan z (plan_errors.NoSuchProcessor n) r = record { error = plan_errors.NoSuchProcessor n; of_text = refl; refused = r; number_is = refl }
  refused_plan z plan_errors.TooManyFaults r = record { error = plan_errors.TooManyFaults; of_text = refl; refused = r; number_is = refl }
  refused_plan z plan_errors.AllKilled r = record { error = plan_errors.AllKilled; of_text = refl; refused = r; number_is = refl }
  refused_plan z plan_errors.NoMemory r = tt

  -- the text of a state has the state's answer
  pub text_may : (text : List ℕ) (z : SavedState) → IsTextOf text z → (a : Answer) → ProgramMay (StateHas options plan z) a
      → TextMay (TextHas options plan) text a
  text_may text z is answers.NoMemory h = tt
  text_may text z is (answers.SavedRefused r) h = absurd h.has
  text_may text z is a h = record { state = z; is = is; has = h }

  -- one of none is refused
  pub refused_text : (text : List ℕ) (error : SavedError) → IsRefusal text error → TextMay (TextHas options plan) text (refusal_of error)
  refused_text text errors.NoMemory h = tt
  refused_text text (errors.NoSuchForm line) h = resumes.refused_text options plan [] [] text (errors.NoSuchForm line) h
  refused_text text (errors.OutOfRange line) h = resumes.refused_text options plan [] [] text (errors.OutOfRange line) h
  refused_text text (errors.BadListing line) h = resumes.refused_text options plan [] [] text (errors.BadListing line) h
  refused_text text (errors.BadCode line) h = resumes.refused_text options plan [] [] text (errors.BadCode line) h
  refused_text text (errors.WrongCount line) h = resumes.refused_text options plan [] [] text (errors.WrongCount line) h

  -- and so is one that is too long
  pub long_text : (text : List ℕ) → saved_limit < length text → TextHas options plan text (answers.SavedRefused (record { number = 1; line = 1 }))
  long_text text long = resumes.long_text options plan [] [] text long

  -- no text has a read fault
  pub no_fault : (text : List ℕ) → ¬ TextHas options plan text answers.ReadFault
  no_fault text h = h.has.has

  -- what stands after more bytes than a saved text may have changes no answer: a text that is longer is refused
  pub fronts_decide : FrontsDecide saved_limit (TextHas options plan)
  fronts_decide text rest (answers.SavedRefused r) long h = resumes.fronts_decide options plan [] [] text rest (answers.SavedRefused r) long h
  fronts_decide text rest a long h = let short = h.is.short in absurd (omega (arith, long, short))

-- what is said after the run of a table over the words that fresh processors find, and what was counted in it
module _ {W : Type 0} (told : W → Option (List Event)) (options : ResumeOptions) (z : SavedState) (plan : Planned) (saved : Saved)
    (is_state : z ≡ state_of saved) (keeper : ℕ) (r : Renewed) (shared : Shared) (limits : Limits) (old new : List W)
    (stands : finish_of (saved_finish z) ≢ None) (is : IsRenewalOf saved keeper r)
    (opens : opening_of shared ≡ record { shape = r.image.shape; code = r.code; words = r.image.words })
    (is_code : IsCode (opening_of shared).code) (limits_are : limits ≡ limits_of options) (same : plan.processors ≡ z.shape.processors)
    (spared : IsKeeper plan_form plan.items keeper) (below : keeper < z.shape.processors) (closed : Closing) (acts : ActCounts)
    (driven : DrivenCounted told plan limits (opening_of shared) closed.words acts old new) where
  abbrev k : Opening
  k = record { shape = z.shape; code = z.code; words = r.image.words }

  abbrev m : Situation
  m = loaded z.shape z.code (lengths_of z.arrays) r.image.words

  opening_is : opening_of shared ≡ k
  opening_is =
      let shape_is : r.image.shape ≡ z.shape = is.shape_is ∙ sym (ap (λ (x : SavedState). x.shape) is_state) in
      let code_is : r.code ≡ z.code = is.code_is ∙ sym (ap (λ (x : SavedState). x.code) is_state) in
      opens ∙ (λ i. record { shape = shape_is i; code = code_is i; words = r.image.words })

  renewed : AreRenewed z.shape z.words r.image.words
  renewed = subst (λ (x : SavedState). AreRenewed x.shape x.words r.image.words) (sym is_state) is.words_are

  code_there : IsCode z.code
  code_there = subst (λ (o : Opening). IsCode o.code) opening_is is_code

  d : DrivenCounted told plan (limits_of options) k closed.words acts old new
  d =
      subst (λ (o : Opening). DrivenCounted told plan (limits_of options) o closed.words acts old new) opening_is
      (subst (λ (l : Limits). DrivenCounted told plan l (opening_of shared) closed.words acts old new) limits_are driven)

  abbrev turns : List Turn
  turns = d.driven.turns

  obey : ObeyAll (plan_of z plan.items) (limits_of options) m.shape m.code m.state turns
  obey = subst (λ (p : Planned). ObeyAll p (limits_of options) m.shape m.code m.state turns) (same_plan z plan same) d.driven.obey

  finished : Finishes z.shape z.code (limits_of options) m.state turns (finish_behind m turns)
  finished =
      (runs_finish z.shape z.code code_there (plan_of z plan.items) (limits_of options) keeper r.image.words turns renewed.fit spared below obey).1

  -- such an answer is that of a run from the state
  abbrev has_said : (a : Answer) → IsSaid m.shape m.array_lengths (named z.arrays) (words_behind m turns) a
      → ResumedHas options [] [] plan.items z a
  has_said a says = record {
    stands = stands;
    start = m;
    goes_on = record { words = r.image.words; renewed = renewed; loads = refl };
    run = record {
      turns = turns;
      obey = obey;
      finished = finished;
      told = record { records = λ c less. tt; others = λ c least. tt };
      says = says;
    };
  }

  -- its answer is the one that is said of the words, and its counts are those of its turns
  pub renewed_counted : (names : List NamedLength) (ran : Ran) (counts : RunCounts) → shared.lengths ≡ r.image.lengths
      → closed.shape ≡ (opening_of shared).shape → closed.array_lengths ≡ shared.lengths → names ≡ r.names
      → IsTheOne (IsSaid closed.shape closed.array_lengths (named names) closed.words) (answer_of ran)
      → counts ≡ counts_told acts (fault_count plan.items) closed.shape closed.words → IsCounted options plan.items z ran counts
  renewed_counted names ran counts arrays shape lengths names_are only counted =
      let a = answer_of ran in
      let arrays_are : z.arrays ≡ saved.names = ap (λ (x : SavedState). x.arrays) is_state in
      let lengths_are : closed.array_lengths ≡ lengths_of z.arrays =
      lengths ∙ arrays ∙ is.lengths_are ∙ saved.whole.lengths_are ∙ ap lengths_of (sym arrays_are) in
      let named_are : named names ≡ named z.arrays = ap named (names_are ∙ is.names_are ∙ sym arrays_are) in
      let shape_is : closed.shape ≡ m.shape = shape ∙ ap (λ (o : Opening). o.shape) opening_is in
      let said = subst (λ (ws : List ℕ). IsTheOne (IsSaid m.shape m.array_lengths (named z.arrays) ws) a) (sym d.driven.words_are)
      (subst (λ (n : List ℕ). IsTheOne (IsSaid m.shape n (named z.arrays) closed.words) a) lengths_are
      (subst (λ (s : Shape). IsTheOne (IsSaid s closed.array_lengths (named z.arrays) closed.words) a) shape_is
      (subst (λ (l : List NamedArray). IsTheOne (IsSaid closed.shape closed.array_lengths l closed.words) a) named_are only))) in
      let some = some_said z r.image.words renewed stands (limits_of options) turns (named z.arrays) finished in
      let faults = fault_count plan.items in
      let are : counts ≡ made_counts faults m turns =
      counted ∙ ap (λ (s : Shape). counts_told acts faults s closed.words) shape_is
      ∙ ap (λ (ws : List ℕ). counts_told acts faults m.shape ws) (sym d.driven.words_are)
      ∙ ap (λ (n : ActCounts). counts_told n faults m.shape (words_behind m turns)) d.counted in
      record {
        has = has_said a (subst (IsSaid m.shape m.array_lengths (named z.arrays) (words_behind m turns)) (sym (said some.0 some.1)) some.1);
        counted = record { are = are; numbers = subst (λ (n : ActCounts). TellsTurns k turns n) d.counted d.numbers };
      }

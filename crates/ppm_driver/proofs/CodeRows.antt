-- What answers of runs of a sound code say: each names the finish that stands after the run, and that is as the code is.
use Rattle.std.proofs.Common.{◌≡◌, ◌≤◌, ◌*◌, ◌^◌, ℕ, List, Some, sym, ap, ◌∙◌, subst, arith}
use Rattle.std.proofs.lemmas.List.Elements.{recursion_from_All}
use Rattle.ppm_words.specs.declared.named_array.NamedArray.{NamedArray}
use Rattle.ppm_words.specs.declared.outcome.Outcome.TheVariants as outcome
use Rattle.ppm_ports.specs.Outside.{ToldLists}
use Rattle.ppm_cells.specs.Finish.{finish_of}
use Rattle.ppm_cells.specs.declared.finish.Finish.{Finish}
use Rattle.ppm_code.specs.declared.code.CodeParts.{CodeParts}
use Rattle.ppm_plan.specs.declared.plan_item.PlanItem.{PlanItem}
use Rattle.ppm_step.specs.Among.{IsTurnAmong}
use Rattle.ppm_answers.specs.declared.answer.Answer.{Answer}
use Rattle.ppm_answers.specs.declared.answer.Answer.TheVariants as answers
use Rattle.ppm_cli.specs.declared.run.RunOptions.{RunOptions}
use Rattle.ppm_cli.specs.Words.{AreRun}
use Rattle.ppm_loading.specs.Says.{IsOfFinish}
use Rattle.ppm_loading.proofs.LoadingLemmas.{opens_processors, opens_room}
use Rattle.ppm_loading.proofs.SayLemmas.{said_of_word}
use Rattle.ppm_outcomes.specs.AsCode.{MayRun, CodeNeedsMoreRoom, CodeNeedsMoreTurns, EndsAsCode, IsAsCode, RunsAreAsCode}
use Rattle.ppm_driver.specs.CodeRuns.{SaysAsCode, AnswersAreAsCode}
use Rattle.ppm_outcomes.specs.RunOf.{words_behind, finish_behind}
use Rattle.ppm_outcomes.specs.Runs.{sizes_of, limits_of, plan_of, CodeHas}
use Rattle.ppm_outcomes.specs.Strikes.{fault_count}
use Rattle.ppm_outcomes.proofs.EndLemmas.{unset_opened}
use Rattle.ppm_outcomes.proofs.MeantRows.{ended_run, trapped_run, full_run, broken_run, past_most, few_turns}
use Rattle.ppm_outcomes.proofs.RunLemmas.{kind_said, spent_said}
use Rattle.ppm_outcomes.proofs.StrikeLemmas.{undone_are_planned}
use Rattle.ppm_outcomes.proofs.WorkLemmas.{of_all, obeyed_work}

module _ (law : RunsAreAsCode) (options : RunOptions) (are : AreRun options) (items : List PlanItem) (code : CodeParts) (input : List NamedArray)
    (may : MayRun code input) (watching : ℕ) (before now : ToldLists) where
  abbrev Has : Answer → Type 0
  Has a = CodeHas options watching before now items code input a

  is : (a : Answer) (h : Has a) → IsAsCode h.start h.run.turns code input
  is a h =
      law code input may (sizes_of options) h.keeper h.start h.opens h.run.turns
      (recursion_from_All (IsTurnAmong h.start.shape.processors) h.run.turns h.run.obey.among)

  -- the finish that is said
  said : (a : Answer) (h : Has a) → (finish : Finish) × (finish_of (finish_behind h.start h.run.turns) ≡ Some finish)
      × IsOfFinish h.start.shape h.start.array_lengths (words_behind h.start h.run.turns) answers.Ended answers.Trapped
      (λ processor x. x ≡ answers.OutOfTurns processor) (λ x. ⊥) input finish a
  said a h = said_of_word answers.Ended answers.Trapped (λ processor x. x ≡ answers.OutOfTurns processor) (λ x. ⊥) h.start.shape
      h.start.array_lengths (words_behind h.start h.run.turns) input (finish_behind h.start h.run.turns) a (λ none. none) h.run.says

  -- what one processor made of its turns is within the work of all
  short : (c : ℕ) → Has (answers.OutOfTurns c) → CodeNeedsMoreTurns code input (fault_count items) options.turns
  short c h e comes =
      let within = (is (answers.OutOfTurns c) h).work e comes in
      let mine = of_all h.start.shape h.start.code c h.start.state h.run.turns in
      let spent = spent_said (limits_of options) h.start (unset_opened (sizes_of options) code input h.keeper h.start h.opens) h.run.turns input c
      h.run.finished h.run.says in
      let made = spent.1 in
      let planned = undone_are_planned (plan_of options items) (limits_of options) h.start h.run.turns h.run.obey in
      omega (arith, within, mine, made, planned)

  says : (a : Answer) (h : Has a) → SaysAsCode options items code input h.start h.run.turns a
  says (answers.Ended arrays) h =
      let k = said (answers.Ended arrays) h in
      let e = ended_run h.start.shape h.start.array_lengths (words_behind h.start h.run.turns) input k.0 arrays k.2 in
      subst (λ (l : List NamedArray). EndsAsCode h.start h.run.turns code input (outcome.Ended l)) (sym e.1)
      ((is (answers.Ended arrays) h).ended (k.1 ∙ ap (λ (f : Finish). Some f) e.0))
  says (answers.Trapped trap line) h =
      let k = said (answers.Trapped trap line) h in
      let e = trapped_run h.start.shape h.start.array_lengths (words_behind h.start h.run.turns) input k.0 trap line k.2 in
      (is (answers.Trapped trap line) h).trapped trap line (k.1 ∙ ap (λ (f : Finish). Some f) e)
  says (answers.OutOfTurns c) h = short c h
  says (answers.OutOfRoom place) h =
      let k = said (answers.OutOfRoom place) h in
      let e = full_run h.start.shape h.start.array_lengths (words_behind h.start h.run.turns) input k.0 place k.2 in
      subst (CodeNeedsMoreRoom code input) (opens_room (sizes_of options) code input h.keeper h.start h.opens)
      ((is (answers.OutOfRoom place) h).full place (k.1 ∙ ap (λ (f : Finish). Some f) e)).1
  says (answers.Broken place) h =
      let k = said (answers.Broken place) h in
      let e = broken_run h.start.shape h.start.array_lengths (words_behind h.start h.run.turns) input k.0 place k.2 in
      let many = (is (answers.Broken place) h).unbroken place (k.1 ∙ ap (λ (f : Finish). Some f) e) in
      let most = obeyed_work h.start.shape h.start.code (plan_of options items) (limits_of options) h.start.state h.run.turns h.run.obey
      (recursion_from_All (IsTurnAmong h.start.shape.processors) h.run.turns h.run.obey.among) in
      let count = opens_processors (sizes_of options) code input h.keeper h.start h.opens in
      past_most many most (subst (λ (n : ℕ). n * options.turns ≤ 2 ^ 34) (sym count) (few_turns options.processors options.turns are.0.1 are.1.1))
  says a h =
      absurd (kind_said (limits_of options) h.start (unset_opened (sizes_of options) code input h.keeper h.start h.opens) h.run.turns input
      h.run.finished a h.run.says)

-- this holds with all options, plans and sound codes
pub answers_are_as_code : RunsAreAsCode → AnswersAreAsCode
answers_are_as_code law options are items code input may watching before now a h = (
  is law options are items code input may watching before now a h,
  says law options are items code input may watching before now a h,
)

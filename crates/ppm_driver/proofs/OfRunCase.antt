-- How an answer of `run` of a case is delivered, and its rows.
use Rattle.std.proofs.Common.{◌≡◌, ◌⊎◌, ◌≤◌, ◌<◌, ℕ, ◌+◌, ◌*◌, List, [], ◌∷◌, Some, inl, inr, sym, subst, arith}
use Rattle.std.specs.Prelude.{⊤}
use Rattle.ppm_words.specs.declared.named_array.NamedArray.{NamedArray}
use Rattle.ppm_ports.specs.Outside.{KeepFronts, Outside, ports_of}
use Rattle.ppm_code.specs.declared.code.CodeParts.{CodeParts}
use Rattle.ppm_depth.specs.Sound.{IsSound}
use Rattle.ppm_case.specs.Case.{IsCaseOf}
use Rattle.ppm_case.specs.Correct.{FaultsTellCases}
use Rattle.ppm_case.specs.Rules.{case_limit}
use Rattle.ppm_plan.specs.Correct.{HasOneAnswer as HasOnePlan, HaveOneAnswer as PlansHaveOneAnswer}
use Rattle.ppm_plan.specs.Forms.{plan_form}
use Rattle.ppm_plan.specs.Refusals.{IsAccepted}
use Rattle.ppm_plan.specs.declared.plan_item.PlanItem.{PlanItem}
use Rattle.ppm_answers.specs.declared.answer.Answer.{Answer}
use Rattle.ppm_answers.specs.declared.answer.Answer.TheVariants as answers
use Rattle.ppm_answers.specs.declared.status.Status.{Status}
use Rattle.ppm_answers.specs.declared.status.Status.TheVariants as statuses
use Rattle.ppm_answers.specs.Delivery.{IsWritten, Delivers}
use Rattle.ppm_answers.specs.Reading.{Answers}
use Rattle.ppm_answers.specs.Rows.{PlannedRows, IsShown, IsOneOf}
use Rattle.ppm_answers.specs.Statuses.{status_of}
use Rattle.ppm_answers.specs.Texts.{IsFixed}
use Rattle.ppm_answers.proofs.Delivered.{of_answers}
use Rattle.ppm_cli.specs.declared.run.RunOptions.{RunOptions}
use Rattle.ppm_cli.specs.Words.{AreRun}
use Rattle.ppm_loading.specs.Planned.{IsRefusedBy, HasByItems, PlannedHas}
use Rattle.ppm_loading.proofs.PlannedLemmas as planned
use Rattle.ppm_outcomes.specs.AsCode.{CodeNeedsMoreRoom, CodeNeedsMoreTurns}
use Rattle.ppm_driver.specs.CaseRows.{AreAsCode, Completes, RunCaseRows}
use Rattle.ppm_driver.specs.CaseRuns.{TextHas, RunCaseHas, RunCaseMay, RunCaseTells, CaseAnswersAreOne, CaseFrontsDecide}
use Rattle.ppm_driver.specs.CodeRuns.{AnswersAreAsCode, SaysAsCode}
use Rattle.ppm_outcomes.specs.CompleteAsCode.{CodeIsEnough}
use Rattle.ppm_outcomes.specs.Completeness.{IsEnd}
use Rattle.ppm_outcomes.specs.Runs.{CodeHas, plan_of, limits_of}
use Rattle.ppm_outcomes.specs.Strikes.{fault_count}
use Rattle.ppm_driver.proofs.CaseHeadlineLemmas.{case_headline}
use Rattle.ppm_outcomes.proofs.MayRunLemmas.{may_run}
use Rattle.ppm_driver.proofs.OfRun.{ended}
use Rattle.ppm_driver.proofs.RunCaseLemmas.{case_wants, run_forgets}
use Rattle.ppm_outcomes.proofs.StrikeLemmas.{undone_are_planned}

-- what was delivered is the answer, or want of memory in its place
pub case_delivered : HasOnePlan plan_form → (options : RunOptions) (watching : ℕ) (plan : List ℕ) (o : Outside) (a : Answer) (status : Status)
    → KeepFronts o.told_before o.told_now → RunCaseTells options watching plan o.source a o.told_before o.told_now
    → RunCaseMay options watching plan o.told_before o.told_now o.source a
    → Delivers o.out o.err a status ⊎ ((¬ IsFixed a) × Delivers o.out o.err answers.NoMemory status)
    → Answers (RunCaseMay options watching plan o.told_before o.told_now o.source) (RunCaseTells options watching plan o.source) o status
case_delivered plans options watching plan o a status kept told may d =
    planned.planned_delivered plan_form plan options.processors (TextHas options watching o.told_before o.told_now) case_limit
    (RunCaseTells options watching plan o.source) plans o a status told
    (kept, told.1, case_wants options watching plan o.told_before o.told_now o.source a may told) may d

-- what the crates below show of every case, every plan and every run of a sound code
pub record Laws : Type 0 where
  pub runs : AnswersAreAsCode
  pub texts : FaultsTellCases
  pub plans : PlansHaveOneAnswer
  pub one : CaseAnswersAreOne
  pub fronts : CaseFrontsDecide

-- Where turns and room are enough for the sound case of a text and the plan's faults, each answer of the text is that the run ended.
module _ (laws : Laws) (options : RunOptions) (are : AreRun options) (plan : List ℕ) (items : List PlanItem)
    (accepted : IsAccepted plan_form plan options.processors items) (text : List ℕ) (code : CodeParts) (input : List NamedArray)
    (is : IsCaseOf text code input) (sound : IsSound code input)
    (enough : CodeIsEnough code input (fault_count items) options.turns options.room) (watching : ℕ) where
  not_few : CodeNeedsMoreTurns code input (fault_count items) options.turns → ⊥
  not_few needs = let few = needs enough.end enough.comes in let some = enough.for_turns in omega (arith, few, some)

  not_little : CodeNeedsMoreRoom code input options.room → ⊥
  not_little needs = let more = needs enough.end enough.comes in let some = enough.for_room in omega (arith, more, some)

  module _ (o : Outside) where
    says : (a : Answer) (h : CodeHas options watching o.told_before o.told_now items code input a)
        → SaysAsCode options items code input h.start h.run.turns a
    says a h = (laws.runs options are items code input (may_run text code input is sound) watching o.told_before o.told_now a h).1

    ends_of : (a : Answer) (h : CodeHas options watching o.told_before o.told_now items code input a)
        → SaysAsCode options items code input h.start h.run.turns a → IsEnd a
    ends_of (answers.Ended arrays) h said = tt
    ends_of (answers.Trapped trap line) h said = tt
    ends_of (answers.OutOfTurns c) h said = absurd (not_few said)
    ends_of (answers.OutOfRoom place) h said = absurd (not_little said)
    ends_of a h said = absurd said

    -- the text is of one case, and the plan has one list of items
    by_case : (a : Answer) (others : List PlanItem) → IsAccepted plan_form plan options.processors others → (c : CodeParts) (l : List NamedArray)
        → IsCaseOf text c l → CodeHas options watching o.told_before o.told_now others c l a → IsEnd a
    by_case a others also c l other h =
        let same = laws.texts.one_case text c code l input other is in
        let with_items = subst (λ (x : List PlanItem). CodeHas options watching o.told_before o.told_now x c l a)
        (laws.plans.plans.items plan others items also.has accepted.has) h in
        let has : CodeHas options watching o.told_before o.told_now items code input a =
        subst (λ (x : CodeParts). CodeHas options watching o.told_before o.told_now items x input a) same.0
        (subst (λ (x : List NamedArray). CodeHas options watching o.told_before o.told_now items c x a) same.1 with_items) in
        ends_of a has (says a has)

    pub ends : (a : Answer) → PlannedHas plan_form plan options.processors (TextHas options watching o.told_before o.told_now) text a → IsEnd a
    ends (answers.PlanRefused number) h = absurd (laws.plans.plans.apart plan options.processors items h.error h.of_text accepted h.refused)
    ends (answers.InputRefused r) h = absurd (laws.texts.excludes text code input _ r.line is h.has.there)
    ends (answers.ListingRefused r) h = absurd (laws.texts.excludes text code input _ r.line is h.has.there)
    ends a h = by_case a h.items h.accepted h.has.code h.has.input h.has.is h.has.has

module _ (laws : Laws) (options : RunOptions) (are : AreRun options) (watching : ℕ) (plan : List ℕ) (o : Outside) (status : Status)
    (a : Answers (RunCaseMay options watching plan o.told_before o.told_now o.source) (RunCaseTells options watching plan o.source) o status) where
  abbrev Has : List ℕ → Answer → Type 0
  Has = HasByItems plan_form plan options.processors (TextHas options watching o.told_before o.told_now)

  abbrev Rows : Type 0
  Rows = PlannedRows (IsRefusedBy plan_form plan options.processors) Has case_limit (λ s. ⊤) (ports_of o) status

  -- what all commands with a plan have
  planned_rows : Rows
  planned_rows =
      planned.planned_rows plan_form plan options.processors (TextHas options watching o.told_before o.told_now) case_limit (ports_of o) status
      (of_answers (RunCaseMay options watching plan o.told_before o.told_now o.source) (RunCaseTells options watching plan o.source) o status a)
      laws.plans.plans (laws.fronts options watching o.told_before o.told_now plan) (λ s. ⊤)
      (record { read_fault = λ f. tt; write_fault = λ f. tt; memory = tt }) (λ answer h w. tt)

  -- where there is one processor, a text has one answer
  shown : Rows → options.processors ≡ 1 → IsShown (RunCaseHas options plan) (ports_of o) status
  shown rows alone all e well answer h =
      let k = rows.rows.known all e well in
      subst (λ (x : Answer). IsWritten o.out o.err x status)
      (laws.one options plan alone all k.0 answer (run_forgets options watching o.told_before o.told_now plan all k.0 k.1) h) k.2

  completes : Rows → Completes options watching plan o status
  completes rows items accepted all e code input is sound enough well =
      let k = rows.rows.known all e well in
      ended status k.0 (ends laws options are plan items accepted all code input is sound enough watching o k.0 k.1) k.2.own

  -- a run of a sound code is as the code is, whatever became of its answer
  as_code : AreAsCode options watching plan o
  as_code items code input may answer h =
      let said = laws.runs options are items code input may watching o.told_before o.told_now answer h in
      record {
        as_code = said.0;
        undone = undone_are_planned (plan_of options items) (limits_of options) h.start h.run.turns h.run.obey;
        says = said.1;
      }

  pub case_rows : RunCaseRows options watching plan o status
  case_rows =
      let rows = planned_rows in
      record {
        headline = case_headline laws.runs laws.fronts options are watching plan o status a;
        judged = rows.rows.judged;
        refuses = rows.refuses;
        shown = shown rows;
        meant = as_code;
        completes = completes rows;
      }

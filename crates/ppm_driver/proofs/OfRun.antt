-- How an answer of `run` is delivered, and its rows.
use Rattle.std.proofs.Common.{◌≡◌, ◌⊎◌, ℕ, List, [], ◌∷◌, Some, inl, inr, sym, subst}
use Rattle.std.specs.Prelude.{⊤}
use Rattle.ppm_ports.specs.Outside.{KeepFronts, Outside, ports_of}
use Rattle.ppm_text.specs.Limits.{text_limit}
use Rattle.ppm_plan.specs.Correct.{HasOneAnswer as HasOnePlan, HaveOneAnswer as PlansHaveOneAnswer}
use Rattle.ppm_plan.specs.Forms.{plan_form}
use Rattle.ppm_answers.specs.declared.answer.Answer.{Answer}
use Rattle.ppm_answers.specs.declared.answer.Answer.TheVariants as answers
use Rattle.ppm_answers.specs.declared.status.Status.{Status}
use Rattle.ppm_answers.specs.declared.status.Status.TheVariants as statuses
use Rattle.ppm_answers.specs.Delivery.{IsWritten, Delivers}
use Rattle.ppm_answers.specs.Reading.{Answers}
use Rattle.ppm_answers.specs.Rows.{PlannedRows, IsShown, IsOneOf}
use Rattle.ppm_answers.specs.Statuses.{status_of}
use Rattle.ppm_answers.specs.Texts.{IsFixed}
use Rattle.ppm_answers.proofs.Delivered.{of_answers}
use Rattle.ppm_cli.specs.declared.run.RunOptions.{RunOptions}
use Rattle.ppm_cli.specs.Words.{AreRun}
use Rattle.ppm_loading.specs.MachineRows.{RefusesPlan}
use Rattle.ppm_loading.specs.Planned.{IsRefusedBy, HasByItems}
use Rattle.ppm_loading.proofs.PlannedLemmas as planned
use Rattle.ppm_outcomes.specs.Completeness.{IsEnd, RunsComplete}
use Rattle.ppm_driver.specs.Headline.{Headline}
use Rattle.ppm_outcomes.specs.Meant.{RunsAreAsPrograms}
use Rattle.ppm_driver.specs.RunRows.{AreAsPrograms, Completes, RunRows}
use Rattle.ppm_outcomes.specs.Runs.{ProgramHas, TextHas, RunHas, RunMay, RunTells, plan_of, limits_of, AnswersAreOne, FrontsDecideAnswers}
use Rattle.ppm_driver.proofs.HeadlineLemmas.{headline}
use Rattle.ppm_driver.proofs.MadeLemmas.{wants}
use Rattle.ppm_outcomes.proofs.MeantRows.{run_is, run_unbroken}
use Rattle.ppm_outcomes.proofs.RunLemmas.{run_forgets}
use Rattle.ppm_outcomes.proofs.StrikeLemmas.{undone_are_planned}

-- what was delivered is the answer, or want of memory in its place
pub run_delivered : HasOnePlan plan_form → (options : RunOptions) (watching : ℕ) (plan : List ℕ) (o : Outside) (a : Answer) (status : Status)
    → KeepFronts o.told_before o.told_now → RunTells options watching plan o.source a o.told_before o.told_now
    → RunMay options watching plan o.told_before o.told_now o.source a
    → Delivers o.out o.err a status ⊎ ((¬ IsFixed a) × Delivers o.out o.err answers.NoMemory status)
    → Answers (RunMay options watching plan o.told_before o.told_now o.source) (RunTells options watching plan o.source) o status
run_delivered plans options watching plan o a status kept told may d =
    planned.planned_delivered plan_form plan options.processors (TextHas options watching o.told_before o.told_now) text_limit
    (RunTells options watching plan o.source) plans o a status told
    (kept, told.1, wants options watching plan o.told_before o.told_now o.source a may told) may d

-- what is known to end is written with the status of an end
pub ended : (status : Status) (answer : Answer) → IsEnd answer → status ≡ status_of answer → IsOneOf status (statuses.Ended ∷ statuses.Trapped ∷ [])
ended status (answers.Ended arrays) is own = inl own
ended status (answers.Trapped trap line) is own = inr (inl own)
ended status _ is own = absurd is

module _ (law : RunsAreAsPrograms) (options : RunOptions) (are : AreRun options) (watching : ℕ) (plan : List ℕ) (o : Outside) (status : Status)
    (a : Answers (RunMay options watching plan o.told_before o.told_now o.source) (RunTells options watching plan o.source) o status) where
  abbrev Has : List ℕ → Answer → Type 0
  Has = HasByItems plan_form plan options.processors (TextHas options watching o.told_before o.told_now)

  abbrev Rows : Type 0
  Rows = PlannedRows (IsRefusedBy plan_form plan options.processors) Has text_limit (λ s. ⊤) (ports_of o) status

  -- 3 comes of a plan alone
  pub plan_refused : FrontsDecideAnswers → status ≡ statuses.WordsRefused → RefusesPlan plan_form plan options.processors (ports_of o)
  plan_refused fronts e =
      let h = subst (Headline options watching plan o) e (headline law fronts options are watching plan o status a) in
      record { number = h.0; refused = h.1.refused; gets = h.2.on_err.0 }

  -- what all commands with a plan have
  planned_rows : PlansHaveOneAnswer → FrontsDecideAnswers → Rows
  planned_rows plans fronts =
      planned.planned_rows plan_form plan options.processors (TextHas options watching o.told_before o.told_now) text_limit (ports_of o) status
      (of_answers (RunMay options watching plan o.told_before o.told_now o.source) (RunTells options watching plan o.source) o status a) plans.plans
      (fronts options watching o.told_before o.told_now plan) (λ s. ⊤) (record { read_fault = λ f. tt; write_fault = λ f. tt; memory = tt })
      (λ answer h w. tt)

  -- where there is one processor, a text has one answer
  shown : Rows → AnswersAreOne → options.processors ≡ 1 → IsShown (RunHas options plan) (ports_of o) status
  shown rows one alone all e well answer h =
      let k = rows.rows.known all e well in
      subst (λ (x : Answer). IsWritten o.out o.err x status)
      (one options plan alone all k.0 answer (run_forgets options watching o.told_before o.told_now plan all k.0 k.1) h) k.2

  completes : Rows → RunsComplete → Completes options watching plan o status
  completes rows complete items accepted all e t has enough well =
      let k = rows.rows.known all e well in
      ended status k.0 (complete options are plan items accepted all t has enough watching o.told_before o.told_now k.0 k.1) k.2.own

  -- a run is as its program, whatever became of its answer
  as_planned : AreAsPrograms options watching plan o
  as_planned items text t has answer h = record {
    as_program = run_is law text t has options watching o.told_before o.told_now items answer h;
    undone = undone_are_planned (plan_of options items) (limits_of options) h.start h.run.turns h.run.obey;
    unbroken = λ place broken.
        run_unbroken law text t has options watching o.told_before o.told_now items are place
        (subst (λ (a : Answer). ProgramHas options watching o.told_before o.told_now items t a) broken h);
  }

  pub run_rows : PlansHaveOneAnswer → AnswersAreOne → FrontsDecideAnswers → RunsComplete → RunRows options watching plan o status
  run_rows plans one fronts complete =
      let rows = planned_rows plans fronts in
      record {
        headline = headline law fronts options are watching plan o status a;
        judged = rows.rows.judged;
        refuses = rows.refuses;
        shown = shown rows one;
        meant = as_planned;
        completes = completes rows complete;
      }

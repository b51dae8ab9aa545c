-- A text has one answer where its case is stopped.
use Rattle.std.proofs.Common.{ℕ, List}
use Rattle.ppm_case.specs.Correct.{FaultsTellCases}
use Rattle.ppm_case.specs.Faults.{HasFault}
use Rattle.ppm_case.specs.Rules.{case_limit}
use Rattle.ppm_case.specs.declared.case_error.CaseFault.{CaseFault}
use Rattle.ppm_layout.specs.Correct.{ImagesAreOne}
use Rattle.ppm_plan.specs.Correct.{HaveOneAnswer as PlansHaveOneAnswer}
use Rattle.ppm_plan.specs.Forms.{schedule_form}
use Rattle.ppm_plan.specs.Refusals.{IsAccepted}
use Rattle.ppm_plan.specs.declared.schedule_item.ScheduleItem.{ScheduleItem}
use Rattle.ppm_answers.specs.declared.answer.Answer.{Answer}
use Rattle.ppm_answers.specs.declared.answer.Answer.TheVariants as answers
use Rattle.ppm_cli.specs.declared.stop.StopOptions.{StopOptions}
use Rattle.ppm_cli.specs.Words.{AreStopped}
use Rattle.ppm_loading.proofs.CaseInputLemmas.{case_input}
use Rattle.ppm_loading.proofs.CaseLemmas.{text_one, text_front, plain, of_text}
use Rattle.ppm_loading.proofs.LoadingLemmas.{some_opening}
use Rattle.ppm_loading.proofs.PlannedLemmas.{planned_one, planned_front}
use Rattle.ppm_stop_command.specs.CaseStops.{TextHas, TextReads, HaveOneStopAnswer}
use Rattle.ppm_outcomes.specs.Stops.{CodeHas, CodeReads, sizes_of}
use Rattle.ppm_orders.proofs.ScheduledLemmas.{some_scheduled}
use Rattle.ppm_stop_command.proofs.OneStop.{code_one}
use Rattle.ppm_stop_command.proofs.StopLemmas.{case_kinds, of_code, of_code_read, some_has, stopped_sizes}

-- no answer of a stopped text by items is that a schedule is refused
steady : (options : StopOptions) (items : List ScheduleItem) (text : List ℕ) (number : ℕ) → ¬ TextHas options items text (answers.PlanRefused number)
steady options items text number h = plain (CodeHas options items) case_kinds (of_code options items) text number h

steady_read : (options : StopOptions) (items : List ScheduleItem) (text : List ℕ) (number : ℕ) → ¬ TextReads options items text (answers.PlanRefused number)
steady_read options items text number h = plain (CodeReads options items) case_kinds (of_code_read options items) text number h

module _ (texts : FaultsTellCases) (images : ImagesAreOne) (plans : PlansHaveOneAnswer) where
  -- a text without a fault has an answer by items that may be obeyed
  some_by_items : (options : StopOptions) → AreStopped options → (schedule : List ℕ) (items : List ScheduleItem) (text : List ℕ)
      → IsAccepted schedule_form schedule options.processors items → ((f : CaseFault) (line : ℕ) → ¬ HasFault text f line)
      → (a : Answer) × TextHas options items text a
  some_by_items options are schedule items text accepted free =
      let has = texts.covers text free in
      let m = some_opening (sizes_of options) has.code has.input accepted.keeper (stopped_sizes options are) accepted.obeyed.below
      (case_input text has.code has.input has.is) in
      let a = some_has options items has.code has.input accepted.keeper m.0 accepted.obeyed.kept m.1 in
      (a.0, of_text (CodeHas options items) case_kinds (of_code options items) text has.code has.input has.is a.0 a.1)

  -- with all options and all schedules
  pub have_one_stop_answer : HaveOneStopAnswer
  have_one_stop_answer = record {
    one = λ options schedule.
        planned_one schedule_form schedule options.processors (TextHas options) case_limit plans.schedules
        (λ items. text_one (CodeHas options items) texts (code_one images options items));
    front = λ options schedule.
        planned_front schedule_form schedule options.processors (TextHas options) case_limit (steady options)
        (λ items. text_front (CodeHas options items) texts);
    front_read = λ options schedule.
        planned_front schedule_form schedule options.processors (TextReads options) case_limit (steady_read options)
        (λ items. text_front (CodeReads options items) texts);
    some = λ options schedule are text free.
        some_scheduled (TextHas options) (steady options) plans schedule options.processors text
        (λ items accepted. some_by_items options are schedule items text accepted free);
  }

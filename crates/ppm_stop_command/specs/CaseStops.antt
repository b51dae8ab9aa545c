-- What `stop` answers of a case, and when it may: what it answers of a text's program, with the code and the input of the case in their place.
use Rattle.std.specs.Prelude.{ℕ, List}
use Rattle.ppm_ports.specs.Ports.{Port}
use Rattle.ppm_case.specs.Faults.{HasFault}
use Rattle.ppm_case.specs.Rules.{case_limit}
use Rattle.ppm_case.specs.declared.case_error.CaseFault.{CaseFault}
use Rattle.ppm_plan.specs.declared.schedule_item.ScheduleItem.{ScheduleItem}
use Rattle.ppm_plan.specs.Forms.{schedule_form}
use Rattle.ppm_answers.specs.declared.answer.Answer.{Answer}
use Rattle.ppm_answers.specs.Reading.{AreOne, FrontsDecide}
use Rattle.ppm_cli.specs.declared.stop.StopOptions.{StopOptions}
use Rattle.ppm_cli.specs.Words.{AreStopped}
use Rattle.ppm_loading.specs.Cases as cases
use Rattle.ppm_loading.specs.Planned.{PlannedHas, PlannedMay}
use Rattle.ppm_outcomes.specs.Stops.{CodeHas, CodeReads}

-- the answer of a text: of its code on its input, by the items of a schedule; or its refusal
abbrev pub TextHas : StopOptions → List ScheduleItem → List ℕ → Answer → Type 0
TextHas options items text answer = cases.TextHas (CodeHas options items) text answer

-- that of the text that was read, with what is read back
abbrev pub TextReads : StopOptions → List ScheduleItem → List ℕ → Answer → Type 0
TextReads options items text answer = cases.TextHas (CodeReads options items) text answer

-- the answer of a text with such options and such a schedule: that the schedule is refused, or that by its items
abbrev pub StopCaseHas : StopOptions → (schedule : List ℕ) → List ℕ → Answer → Type 0
StopCaseHas options schedule text answer = PlannedHas schedule_form schedule options.processors (TextHas options) text answer

-- that of the text that was read
abbrev pub StopCaseReads : StopOptions → (schedule : List ℕ) → List ℕ → Answer → Type 0
StopCaseReads options schedule text answer = PlannedHas schedule_form schedule options.processors (TextReads options) text answer

-- the answers of `stop` of a case with such options and such a schedule
abbrev pub StopCaseMay : StopOptions → (schedule : List ℕ) → Port → Answer → Type 0
StopCaseMay options schedule source answer =
    PlannedMay schedule_form schedule options.processors (TextReads options) case_limit source answer

-- With all options and all schedules two answers of a text are one, and what stands after more bytes than a case may have changes none; with
-- options in their ranges a text without a fault has one.
pub record HaveOneStopAnswer : Type 0 where
  pub one : (options : StopOptions) (schedule : List ℕ) → AreOne (StopCaseHas options schedule)
  pub front : (options : StopOptions) (schedule : List ℕ) → FrontsDecide case_limit (StopCaseHas options schedule)
  pub front_read : (options : StopOptions) (schedule : List ℕ) → FrontsDecide case_limit (StopCaseReads options schedule)
  pub some : (options : StopOptions) (schedule : List ℕ) → AreStopped options
      → (text : List ℕ) → ((f : CaseFault) (line : ℕ) → ¬ HasFault text f line) → (a : Answer) × StopCaseHas options schedule text a

-- What `sweep` answers of a case, and when it may: what it answers of a text's program, with the code and the input of the case in their place.
use Rattle.std.specs.Prelude.{ℕ, List}
use Rattle.ppm_ports.specs.Ports.{Port}
use Rattle.ppm_case.specs.Faults.{HasFault}
use Rattle.ppm_case.specs.Rules.{case_limit}
use Rattle.ppm_case.specs.declared.case_error.CaseFault.{CaseFault}
use Rattle.ppm_plan.specs.declared.schedule_item.ScheduleItem.{ScheduleItem}
use Rattle.ppm_plan.specs.Forms.{schedule_form}
use Rattle.ppm_answers.specs.declared.answer.Answer.{Answer}
use Rattle.ppm_answers.specs.declared.answer.Answer.TheVariants as answers
use Rattle.ppm_answers.specs.declared.case.UntidyStore.{UntidyStore}
use Rattle.ppm_answers.specs.Reading.{AreOne, FrontsDecide}
use Rattle.ppm_cli.specs.declared.sweep.SweepOptions.{SweepOptions}
use Rattle.ppm_cli.specs.Words.{AreSwept}
use Rattle.ppm_loading.specs.Cases as cases
use Rattle.ppm_loading.specs.Planned.{PlannedHas, PlannedMay}
use Rattle.ppm_sweep_command.specs.Sweeps.{CodeHas}

-- the answer of a text: of its code on its input, by the items of a schedule; or its refusal
abbrev pub TextHas : SweepOptions → List ScheduleItem → List ℕ → Answer → Type 0
TextHas o items text answer = cases.TextHas (CodeHas o items) text answer

-- that with such options and such a schedule: that the schedule is refused, or that by its items
abbrev pub SweepCaseHas : SweepOptions → (schedule : List ℕ) → List ℕ → Answer → Type 0
SweepCaseHas o schedule text answer = PlannedHas schedule_form schedule o.processors (TextHas o) text answer

-- the answers of `sweep` of a case with such options and such a schedule
abbrev pub SweepCaseMay : SweepOptions → (schedule : List ℕ) → Port → Answer → Type 0
SweepCaseMay o schedule source answer = PlannedMay schedule_form schedule o.processors (TextHas o) case_limit source answer

-- With all options and all schedules two answers of a text are one, and what stands after more bytes than a case may have changes none; with
-- options in their ranges a text without a fault, and without a store that is not tidy, has one.
pub record HaveOneCaseAnswer : Type 0 where
  pub one : (o : SweepOptions) (schedule : List ℕ) → AreOne (SweepCaseHas o schedule)
  pub front : (o : SweepOptions) (schedule : List ℕ) → FrontsDecide case_limit (SweepCaseHas o schedule)
  pub some : (o : SweepOptions) (schedule : List ℕ) → AreSwept o
      → (text : List ℕ) → ((f : CaseFault) (line : ℕ) → ¬ HasFault text f line)
      → ((u : UntidyStore) → ¬ SweepCaseHas o schedule text (answers.Untidy u)) → (a : Answer) × SweepCaseHas o schedule text a

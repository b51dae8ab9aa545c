-- What `replay` answers of a case, and when it may: what it answers of a text's program, with the code and the input of the case in their place.
use Rattle.std.specs.Prelude.{ℕ, List}
use Rattle.ppm_ports.specs.Ports.{Port}
use Rattle.ppm_case.specs.Faults.{HasFault}
use Rattle.ppm_case.specs.Rules.{case_limit}
use Rattle.ppm_case.specs.declared.case_error.CaseFault.{CaseFault}
use Rattle.ppm_plan.specs.declared.schedule_item.ScheduleItem.{ScheduleItem}
use Rattle.ppm_plan.specs.Forms.{schedule_form}
use Rattle.ppm_answers.specs.declared.answer.Answer.{Answer}
use Rattle.ppm_answers.specs.Reading.{AreOne, FrontsDecide}
use Rattle.ppm_cli.specs.declared.replay.ReplayOptions.{ReplayOptions}
use Rattle.ppm_cli.specs.Words.{AreReplayed}
use Rattle.ppm_loading.specs.Cases as cases
use Rattle.ppm_loading.specs.Planned.{PlannedHas, PlannedMay}
use Rattle.ppm_outcomes.specs.Replays.{CodeHas}

-- the answer of a text: of its code on its input, by the items of a schedule; or its refusal
abbrev pub TextHas : ReplayOptions → List ScheduleItem → List ℕ → Answer → Type 0
TextHas options items text answer = cases.TextHas (CodeHas options items) text answer

-- that with such options and such a schedule: that the schedule is refused, or that by its items
abbrev pub ReplayCaseHas : ReplayOptions → (schedule : List ℕ) → List ℕ → Answer → Type 0
ReplayCaseHas options schedule text answer = PlannedHas schedule_form schedule options.processors (TextHas options) text answer

-- the answers of `replay` of a case with such options and such a schedule
abbrev pub ReplayCaseMay : ReplayOptions → (schedule : List ℕ) → Port → Answer → Type 0
ReplayCaseMay options schedule source answer =
    PlannedMay schedule_form schedule options.processors (TextHas options) case_limit source answer

-- With all options and all schedules two answers of a text are one, and what stands after more bytes than a case may have changes none; with
-- options in their ranges a text without a fault has one.
pub record HaveOneCaseAnswer : Type 0 where
  pub one : (options : ReplayOptions) (schedule : List ℕ) → AreOne (ReplayCaseHas options schedule)
  pub front : (options : ReplayOptions) (schedule : List ℕ) → FrontsDecide case_limit (ReplayCaseHas options schedule)
  pub some : (options : ReplayOptions) (schedule : List ℕ) → AreReplayed options
      → (text : List ℕ) → ((f : CaseFault) (line : ℕ) → ¬ HasFault text f line) → (a : Answer) × ReplayCaseHas options schedule text a

-- What follows from each status of `sweep` of a case.
use Rattle.std.specs.Prelude.{◌⊎◌, ℕ, List}
use Rattle.ppm_words.specs.declared.named_array.NamedArray.{NamedArray}
use Rattle.ppm_ports.specs.Ports.{Gets}
use Rattle.ppm_ports.specs.Outside.{Ports}
use Rattle.ppm_code.specs.declared.code.CodeParts.{CodeParts}
use Rattle.ppm_depth.specs.Sound.{IsSound}
use Rattle.ppm_case.specs.Rules.{case_limit}
use Rattle.ppm_plan.specs.declared.schedule_item.ScheduleItem.{ScheduleItem}
use Rattle.ppm_plan.specs.Forms.{schedule_form}
use Rattle.ppm_plan.specs.Refusals.{IsAccepted}
use Rattle.ppm_answers.specs.declared.answer.Answer.{Answer}
use Rattle.ppm_answers.specs.declared.answer.Answer.TheVariants as answers
use Rattle.ppm_answers.specs.declared.case.UntidyStore.{UntidyStore}
use Rattle.ppm_answers.specs.declared.status.Status.{Status}
use Rattle.ppm_answers.specs.declared.status.Status.TheVariants as statuses
use Rattle.ppm_answers.specs.declared.sweep.Difference.{Difference}
use Rattle.ppm_answers.specs.declared.sweep.Sweep.{Sweep}
use Rattle.ppm_answers.specs.Texts.{difference_text, not_within_capsules_text, sweep_text, untidy_text}
use Rattle.ppm_answers.specs.Reading.{IsUnread, ReadHas}
use Rattle.ppm_answers.specs.Rows.{PortsSay, PlannedRows, IsShown, IsDone}
use Rattle.ppm_cli.specs.declared.sweep.SweepOptions.{SweepOptions}
use Rattle.ppm_loading.specs.MachineRows as machine
use Rattle.ppm_loading.specs.Planned.{IsRefusedBy, HasByItems}
use Rattle.ppm_outcomes.specs.AsCode.{MayRun}
use Rattle.ppm_orders.specs.CaseRefusals.{RefusesCase}
use Rattle.ppm_sweep_command.specs.CaseSweeps.{SweepCaseHas, SweepCaseMay, TextHas}
use Rattle.ppm_sweep_command.specs.SweepRows.{IsCutShort}
use Rattle.ppm_sweep_command.specs.Sweeps.{CodeHas}

module _ (options : SweepOptions) (schedule : List ℕ) (o : Ports) where
  -- the text that was read has this answer, with these options and this schedule
  abbrev pub HasRead : Answer → Type 0
  HasRead answer = ReadHas case_limit (HasByItems schedule_form schedule options.processors (TextHas options)) o.source answer

  -- all runs come to what the depth-first run of the case that was read comes to, and out got exactly the line with their counts
  pub record WritesCounts : Type 0 where
    pub counts : Sweep
    pub read : HasRead (answers.Swept counts)
    pub gets : Gets o.out (sweep_text counts)

  -- a run doesn't, and err got exactly its schedule, its takeover and what it came to; if the case is sound, it came to no end
  pub record WritesDifference : Type 0 where
    pub difference : Difference
    pub read : HasRead (answers.Differs difference)
    pub cut : let h = read.2.has in IsSound h.code h.input → IsCutShort options h.code h.input difference.came
    pub gets : Gets o.err (difference_text difference)

  -- the case takes more capsules, run depth first, and err got exactly the line that says so
  abbrev pub WritesNotWithin : Type 0
  WritesNotWithin = HasRead (answers.NotWithinCapsules options.capsules) × Gets o.err (not_within_capsules_text options.capsules)

  -- its code has a store that is not tidy, and err got exactly the line of the first
  abbrev pub WritesUntidy : Type 0
  WritesUntidy = (u : UntidyStore) × HasRead (answers.Untidy u) × Gets o.err (untidy_text u)

  -- what each status says; the others never come
  abbrev pub SweepCaseSays : Status → Type 0
  SweepCaseSays statuses.Ended = WritesCounts
  SweepCaseSays statuses.CodeRefused = RefusesCase HasRead o ⊎ WritesUntidy
  SweepCaseSays statuses.WordsRefused = machine.RefusesPlan schedule_form schedule options.processors o × IsUnread o.source
  SweepCaseSays statuses.NotWithin = WritesNotWithin
  SweepCaseSays statuses.Differs = WritesDifference
  SweepCaseSays status = PortsSay o status

  -- Each difference that may be told of a sound code is of a run that came to no end. It is a law, in which no status occurs, so it holds also where a
  -- port failed at the text.
  abbrev pub AreAsCode : Type 0
  AreAsCode = (items : List ScheduleItem) → IsAccepted schedule_form schedule options.processors items
      → (code : CodeParts) (input : List NamedArray) → MayRun code input
      → (d : Difference) → CodeHas options items code input (answers.Differs d) → IsCutShort options code input d.came

  -- The rows of `sweep` of a case with such options, in their ranges, and such a schedule. The answer that a text has is written, whichever it is.
  pub record SweepCaseRows (status : Status) : Type 0 where
    pub rows : PlannedRows (IsRefusedBy schedule_form schedule options.processors)
        (HasByItems schedule_form schedule options.processors (TextHas options)) case_limit SweepCaseSays o status
    pub shown : IsShown (SweepCaseHas options schedule) o status
    pub meant : AreAsCode

-- a sweep of a case with such options and such a schedule is done: an answer that may come was delivered, and its rows hold
abbrev pub IsCaseSwept : SweepOptions → (schedule : List ℕ) → Ports → Status → Type 0
IsCaseSwept options schedule = IsDone (SweepCaseMay options schedule) (SweepCaseRows options schedule)

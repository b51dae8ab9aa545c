-- The rows of `sweep`.
use Rattle.std.proofs.Common.{◌≡◌, ℕ, List, sym, subst}
use Rattle.ppm_ports.specs.Ports.{Port}
use Rattle.ppm_ports.specs.Outside.{Ports}
use Rattle.ppm_text.specs.Limits.{text_limit}
use Rattle.ppm_tree.specs.Tree.{ProgramTree}
use Rattle.ppm_tree.specs.Program.{initial_arrays}
use Rattle.ppm_cut_code.specs.Routines.{code_of}
use Rattle.ppm_program.specs.Programs.{HasProgram}
use Rattle.ppm_words.specs.declared.outcome.Outcome.{Outcome}
use Rattle.ppm_plan.specs.Correct.{HaveOneAnswer as PlansHaveOneAnswer}
use Rattle.ppm_plan.specs.Forms.{schedule_form}
use Rattle.ppm_plan.specs.declared.schedule_item.ScheduleItem.{ScheduleItem}
use Rattle.ppm_answers.specs.declared.answer.Answer.{Answer}
use Rattle.ppm_answers.specs.declared.answer.Answer.TheVariants as answers
use Rattle.ppm_answers.specs.declared.case.UntidyStore.{UntidyStore}
use Rattle.ppm_answers.specs.declared.status.Status.{Status}
use Rattle.ppm_answers.specs.Delivery.{IsWritten}
use Rattle.ppm_answers.specs.Reading.{DeliversAnswer}
use Rattle.ppm_answers.specs.Rows.{PlannedRows, ReadOrRefused}
use Rattle.ppm_answers.specs.Statuses.{status_of}
use Rattle.ppm_answers.proofs.RowsLemmas as rows_lemmas
use Rattle.ppm_cli.specs.declared.sweep.SweepOptions.{SweepOptions}
use Rattle.ppm_cli.specs.Words.{AreSwept}
use Rattle.ppm_loading.specs.Planned.{IsRefusedBy, HasByItems}
use Rattle.ppm_loading.proofs.FirstStore.{none_told}
use Rattle.ppm_loading.proofs.PlannedLemmas as planned
use Rattle.ppm_outcomes.specs.Meant.{HasOutcome}
use Rattle.ppm_outcomes.specs.ProgramsAsCode.{ProgramsAreAsCode}
use Rattle.ppm_sweep_command.specs.SweepRows.{HasRead, SweepSays, SweepRows, SweepsAreAsCode, WritesNotWithin}
use Rattle.ppm_sweep_command.specs.Sweeps.{HaveOneAnswer, ProgramHas, SweepMay, TextHas, WithOutcome}
use Rattle.ppm_sweep_command.proofs.OneSweep.{of_program}

module _ (programs : ProgramsAreAsCode) (law : SweepsAreAsCode) (options : SweepOptions) (are : AreSwept options) (schedule : List ℕ) (o : Ports) where
  abbrev ByItems : List ℕ → Answer → Type 0
  ByItems = HasByItems schedule_form schedule options.processors (TextHas options)

  abbrev Read : Port → Answer → Type 0
  Read source answer = ReadOrRefused (IsRefusedBy schedule_form schedule options.processors) ByItems text_limit source answer

  -- what is said of faults and of want of memory
  of_ports : rows_lemmas.SaysOfPorts o (SweepSays options schedule o)
  of_ports = record { read_fault = λ f. f; write_fault = λ f. f; memory = tt }

  -- an outcome of the code, run depth first, is the program's
  meant : (text : List ℕ) (t : ProgramTree) → HasProgram text t → (items : List ScheduleItem) → {H : Outcome → Type 0}
      → (w : WithOutcome options items (code_of t) (initial_arrays t) H) → HasOutcome t w.run.outcome
  meant text t has items w = (programs text t has).serially w.run.outcome (w.within.end, w.within.comes, sym w.within.outcome)

  -- the code of a program is tidy
  no_store : (text : List ℕ) (t : ProgramTree) → HasProgram text t → (items : List ScheduleItem) (u : UntidyStore)
      → ProgramHas options items t (answers.Untidy u) → ⊥
  no_store text t has items u h = none_told (code_of t) (initial_arrays t) u h (programs text t has).may.sound.tidy

  -- the capsules are those that were asked for
  not_within : (n : ℕ) → n ≡ options.capsules → HasRead options schedule o (answers.NotWithinCapsules n)
      → IsWritten o.out o.err (answers.NotWithinCapsules n) (status_of (answers.NotWithinCapsules n)) → WritesNotWithin options schedule o
  not_within n e h w =
      subst (λ m. HasRead options schedule o (answers.NotWithinCapsules m)
      → IsWritten o.out o.err (answers.NotWithinCapsules m) (status_of (answers.NotWithinCapsules m)) → WritesNotWithin options schedule o) (sym e)
      (λ read written. (read, written.err_takes.0)) h w

  -- an answer that is written says the sentence of its status
  by : (answer : Answer) → Read o.source answer → IsWritten o.out o.err answer (status_of answer) → SweepSays options schedule o (status_of answer)
  by (answers.PlanRefused number) h w = (record { number = number; refused = h.0; gets = w.err_takes.0 }, h.1)
  by (answers.SourceRefused r) h w = (r, h, w.err_takes.0)
  by (answers.Untidy u) h w = absurd (no_store h.0 h.2.has.0 h.2.has.1 h.2.items u h.2.has.2)
  by (answers.NotWithinCapsules n) h w = not_within n h.2.has.2.0 h w
  by (answers.Swept counts) h w = record {
    counts = counts;
    read = h;
    meant = meant h.0 h.2.has.0 h.2.has.1 h.2.items h.2.has.2;
    gets = w.out_takes.0;
  }
  by (answers.Differs d) h w = record {
    difference = d;
    read = h;
    cut = law options are schedule h.2.items h.2.accepted (code_of h.2.has.0) (initial_arrays h.2.has.0) (programs h.0 h.2.has.0 h.2.has.1).may d h.2.has.2;
    gets = w.err_takes.0;
  }
  by answer h w = absurd (of_program options h.2.items h.2.has.0 answer h.2.has.2)

  module _ (status : Status) (a : DeliversAnswer (SweepMay options schedule o.source) o status) where
    planned_rows : PlansHaveOneAnswer → HaveOneAnswer
        → PlannedRows (IsRefusedBy schedule_form schedule options.processors) ByItems text_limit (SweepSays options schedule o) o status
    planned_rows plans one =
        planned.planned_rows schedule_form schedule options.processors (TextHas options) text_limit o status a plans.schedules
        (one.front options schedule) (SweepSays options schedule o) of_ports by

    pub sweep_rows : PlansHaveOneAnswer → HaveOneAnswer → SweepRows options schedule o status
    sweep_rows plans one = record {
      rows = planned_rows plans one;
      shown = λ all e well answer h.
          let k = (planned_rows plans one).rows.known all e well in
          subst (λ (x : Answer). IsWritten o.out o.err x status) (one.one options schedule all k.0 answer k.1 h) k.2;
      meant = λ items accepted text t has d h. law options are schedule items accepted (code_of t) (initial_arrays t) (programs text t has).may d h;
    }

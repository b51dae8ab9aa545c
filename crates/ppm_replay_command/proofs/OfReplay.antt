-- The rows of `replay`.
use Rattle.std.proofs.Common.{◌≡◌, ℕ, List, sym, subst}
use Rattle.ppm_ports.specs.Ports.{Port}
use Rattle.ppm_ports.specs.Outside.{Ports}
use Rattle.ppm_text.specs.Limits.{text_limit}
use Rattle.ppm_tree.specs.Program.{initial_arrays}
use Rattle.ppm_cut_code.specs.Routines.{code_of}
use Rattle.ppm_plan.specs.Correct.{HaveOneAnswer as PlansHaveOneAnswer}
use Rattle.ppm_plan.specs.Forms.{schedule_form}
use Rattle.ppm_answers.specs.declared.answer.Answer.{Answer}
use Rattle.ppm_answers.specs.declared.answer.Answer.TheVariants as answers
use Rattle.ppm_answers.specs.declared.status.Status.{Status}
use Rattle.ppm_answers.specs.declared.status.Status.TheVariants as statuses
use Rattle.ppm_answers.specs.Delivery.{IsWritten}
use Rattle.ppm_answers.specs.Reading.{DeliversAnswer}
use Rattle.ppm_answers.specs.Rows.{PlannedRows, ReadOrRefused}
use Rattle.ppm_answers.specs.Statuses.{status_of}
use Rattle.ppm_answers.proofs.RowsLemmas as rows_lemmas
use Rattle.ppm_cli.specs.declared.replay.ReplayOptions.{ReplayOptions}
use Rattle.ppm_cli.specs.Words.{AreReplayed}
use Rattle.ppm_loading.specs.MachineRows.{RefusesPlan}
use Rattle.ppm_outcomes.specs.Meant.{RunsAreAsPrograms}
use Rattle.ppm_loading.specs.Planned.{IsRefusedBy, HasByItems}
use Rattle.ppm_outcomes.specs.Replays.{TextHas, ReplayMay, HaveOneAnswer}
use Rattle.ppm_replay_command.specs.ReplayRows.{HasRead, WritesUnfinished, ReplaySays, ReplayRows}
use Rattle.ppm_outcomes.proofs.MeantRows.{replay_is, replay_ends, replay_traps, replay_needs, replay_unbroken, replay_once}
use Rattle.ppm_loading.proofs.PlannedLemmas as planned
use Rattle.ppm_outcomes.proofs.ReplayLemmas.{of_program, filled_has}

module _ (law : RunsAreAsPrograms) (options : ReplayOptions) (are : AreReplayed options) (schedule : List ℕ) (o : Ports) where
  abbrev Read : Port → Answer → Type 0
  Read source answer = ReadOrRefused (IsRefusedBy schedule_form schedule options.processors)
      (HasByItems schedule_form schedule options.processors (TextHas options)) text_limit source answer

  -- what is said of faults and of want of memory
  of_ports : rows_lemmas.SaysOfPorts o (ReplaySays options schedule o)
  of_ports = record { read_fault = λ f. f; write_fault = λ f. f; memory = tt }

  -- a replay that has not ended has made as many acts as it may
  unfinished : (n : ℕ) → n ≡ options.turns → HasRead options schedule o (answers.Unfinished n)
      → IsWritten o.out o.err (answers.Unfinished n) (status_of (answers.Unfinished n)) → WritesUnfinished options schedule o
  unfinished n e h w =
      subst (λ m. HasRead options schedule o (answers.Unfinished m)
      → IsWritten o.out o.err (answers.Unfinished m) (status_of (answers.Unfinished m)) → WritesUnfinished options schedule o) (sym e)
      (λ read written. record {
        read = read;
        once =
            replay_once law read.0 read.2.has.0 read.2.has.1 options schedule read.2.items read.2.accepted (answers.Unfinished options.turns)
            read.2.has.2;
        gets = written.err_takes.0;
      }) h w

  -- an answer that is written says the sentence of its status
  by : (answer : Answer) → Read o.source answer → IsWritten o.out o.err answer (status_of answer) → ReplaySays options schedule o (status_of answer)
  by (answers.PlanRefused number) h w = (record { number = number; refused = h.0; gets = w.err_takes.0 }, h.1)
  by (answers.SourceRefused r) h w = (r, h, w.err_takes.0)
  by (answers.EndedWith arrays tally) h w = record {
    arrays = arrays;
    tally = tally;
    read = h;
    meant =
        replay_ends law h.0 h.2.has.0 h.2.has.1 options schedule h.2.items h.2.accepted arrays tally h.2.has.2;
    gets = w.out_takes.0;
  }
  by (answers.TrappedWith t line tally) h w = record {
    trap = t;
    line = line;
    tally = tally;
    read = h;
    meant =
        replay_traps law h.0 h.2.has.0 h.2.has.1 options schedule h.2.items h.2.accepted t line tally h.2.has.2;
    gets = w.out_takes.0;
  }
  by (answers.Unfinished n) h w = unfinished n (of_program options h.2.items h.2.has.0 (answers.Unfinished n) h.2.has.2) h w
  by (answers.OutOfRoom place) h w = record {
    place = place;
    read = h;
    full = (
      of_program options h.2.items h.2.has.0 (answers.OutOfRoom place) h.2.has.2,
      filled_has options h.2.items (code_of h.2.has.0) (initial_arrays h.2.has.0) place h.2.has.2,
    );
    needs = replay_needs law h.0 h.2.has.0 h.2.has.1 options schedule h.2.items h.2.accepted place h.2.has.2;
    once =
        replay_once law h.0 h.2.has.0 h.2.has.1 options schedule h.2.items h.2.accepted (answers.OutOfRoom place) h.2.has.2;
    gets = w.err_takes.0;
  }
  by (answers.Broken place) h w =
      absurd (replay_unbroken law h.0 h.2.has.0 h.2.has.1 options schedule h.2.items h.2.accepted are place h.2.has.2)
  by answer h w = absurd (of_program options h.2.items h.2.has.0 answer h.2.has.2)

  module _ (status : Status) (a : DeliversAnswer (ReplayMay options schedule o.source) o status) where
    -- what the status says
    says : ReplaySays options schedule o status
    says = rows_lemmas.says (ReplayMay options schedule) Read
        (planned.are_causes schedule_form schedule options.processors (TextHas options) text_limit) o status a
        (ReplaySays options schedule o) of_ports by

    pub schedule_refused : status ≡ statuses.WordsRefused → RefusesPlan schedule_form schedule options.processors o
    schedule_refused e = (subst (ReplaySays options schedule o) e says).0

    planned_rows : PlansHaveOneAnswer → HaveOneAnswer
        → PlannedRows (IsRefusedBy schedule_form schedule options.processors) (HasByItems schedule_form schedule options.processors (TextHas options))
        text_limit (ReplaySays options schedule o) o status
    planned_rows plans one =
        planned.planned_rows schedule_form schedule options.processors (TextHas options) text_limit o status a plans.schedules
        (one.front options schedule) (ReplaySays options schedule o) of_ports by

    pub replay_rows : PlansHaveOneAnswer → HaveOneAnswer → ReplayRows options schedule o status
    replay_rows plans one = record {
      rows = planned_rows plans one;
      shown = λ all e well answer h.
          let k = (planned_rows plans one).rows.known all e well in
          subst (λ (x : Answer). IsWritten o.out o.err x status) (one.one options schedule all k.0 answer k.1 h) k.2;
      meant = λ items accepted text t has answer h. replay_is law text t has options schedule items accepted answer h;
    }

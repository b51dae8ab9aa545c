-- The rows of `stop`.
use Rattle.std.proofs.Common.{◌≡◌, ℕ, List, subst}
use Rattle.ppm_ports.specs.Ports.{Port}
use Rattle.ppm_ports.specs.Outside.{Ports}
use Rattle.ppm_text.specs.Limits.{text_limit}
use Rattle.ppm_plan.specs.Correct.{HaveOneAnswer as PlansHaveOneAnswer}
use Rattle.ppm_plan.specs.Forms.{schedule_form}
use Rattle.ppm_plan.specs.declared.schedule_item.ScheduleItem.{ScheduleItem}
use Rattle.ppm_tree.specs.Program.{initial_arrays}
use Rattle.ppm_answers.specs.declared.answer.Answer.{Answer}
use Rattle.ppm_answers.specs.declared.answer.Answer.TheVariants as answers
use Rattle.ppm_answers.specs.declared.status.Status.{Status}
use Rattle.ppm_answers.specs.declared.status.Status.TheVariants as statuses
use Rattle.ppm_answers.specs.Delivery.{IsWritten}
use Rattle.ppm_answers.specs.Reading.{DeliversAnswer}
use Rattle.ppm_answers.specs.Rows.{PlannedRows, ReadOrRefused}
use Rattle.ppm_answers.specs.Statuses.{status_of}
use Rattle.ppm_answers.proofs.RowsLemmas as rows_lemmas
use Rattle.ppm_cli.specs.declared.stop.StopOptions.{StopOptions}
use Rattle.ppm_following.specs.Followed.{followed}
use Rattle.ppm_loading.specs.MachineRows.{RefusesPlan}
use Rattle.ppm_loading.specs.Planned.{IsRefusedBy, HasByItems}
use Rattle.ppm_loading.proofs.PlannedLemmas as planned
use Rattle.ppm_outcomes.specs.Stops.{TextHas, TextReads, StopReads, StopHas, StopMay, HaveOneAnswer, text_of}
use Rattle.ppm_stop_command.specs.StopRows.{StopSays, StopRows}
use Rattle.ppm_stop_command.proofs.StopLemmas.{of_reading, same_text}

module _ (options : StopOptions) (schedule : List ℕ) (o : Ports) where
  abbrev Read : Port → Answer → Type 0
  Read source answer = ReadOrRefused (IsRefusedBy schedule_form schedule options.processors)
      (HasByItems schedule_form schedule options.processors (TextReads options)) text_limit source answer

  -- the answer of the text that was read is the text's
  has_text : (items : List ScheduleItem) (text : List ℕ) (answer : Answer) → TextReads options items text answer → TextHas options items text answer
  has_text items text (answers.SourceRefused r) h = h
  has_text items text answer h = (h.0, h.1, h.2.has)

  is_answer : (text : List ℕ) (answer : Answer) → StopReads options schedule text answer → StopHas options schedule text answer
  is_answer text (answers.PlanRefused number) h = h
  is_answer text answer h = record { items = h.items; accepted = h.accepted; has = has_text h.items text answer h.has }

  -- what is said of faults and of want of memory
  of_ports : rows_lemmas.SaysOfPorts o (StopSays options schedule o)
  of_ports = record { read_fault = λ f. f; write_fault = λ f. f; memory = tt }

  -- an answer that is written says the sentence of its status
  by : (answer : Answer) → Read o.source answer → IsWritten o.out o.err answer (status_of answer) → StopSays options schedule o (status_of answer)
  by (answers.PlanRefused number) h w = (record { number = number; refused = h.0; gets = w.err_takes.0 }, h.1)
  by (answers.SourceRefused r) h w = (r, h, w.err_takes.0)
  by (answers.Saved text) h w = record {
    text = text;
    read = h;
    saves = same_text text (text_of (followed h.2.has.2.has.start h.2.items options.after) (initial_arrays h.2.has.0)) h.2.has.2.has.saves;
    read_back = h.2.has.2.read_back;
    gets = w.out_takes.0;
  }
  by answer h w = absurd (of_reading options h.2.items h.2.has.0 answer h.2.has.2)

  module _ (status : Status) (a : DeliversAnswer (StopMay options schedule o.source) o status) where
    -- what the status says
    says : StopSays options schedule o status
    says = rows_lemmas.says (StopMay options schedule) Read
        (planned.are_causes schedule_form schedule options.processors (TextReads options) text_limit) o status a
        (StopSays options schedule o) of_ports by

    pub schedule_refused : status ≡ statuses.WordsRefused → RefusesPlan schedule_form schedule options.processors o
    schedule_refused e = (subst (StopSays options schedule o) e says).0

    planned_rows : PlansHaveOneAnswer → HaveOneAnswer
        → PlannedRows (IsRefusedBy schedule_form schedule options.processors) (HasByItems schedule_form schedule options.processors (TextReads options))
        text_limit (StopSays options schedule o) o status
    planned_rows plans one =
        planned.planned_rows schedule_form schedule options.processors (TextReads options) text_limit o status a plans.schedules
        (one.front_read options schedule) (StopSays options schedule o) of_ports by

    pub stop_rows : PlansHaveOneAnswer → HaveOneAnswer → StopRows options schedule o status
    stop_rows plans one = record {
      rows = planned_rows plans one;
      shown = λ all e well answer h.
          let k = (planned_rows plans one).rows.known all e well in
          subst (λ (x : Answer). IsWritten o.out o.err x status) (one.one options schedule all k.0 answer (is_answer all k.0 k.1) h) k.2;
    }

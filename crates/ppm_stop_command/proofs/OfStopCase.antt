-- The rows of `stop` of a case.
use Rattle.std.proofs.Common.{◌≡◌, ℕ, List, inl, inr, sym, subst}
use Rattle.ppm_ports.specs.Ports.{Port}
use Rattle.ppm_ports.specs.Outside.{Ports}
use Rattle.ppm_case.specs.Rules.{case_limit}
use Rattle.ppm_plan.specs.Correct.{HaveOneAnswer as PlansHaveOneAnswer}
use Rattle.ppm_plan.specs.Forms.{schedule_form}
use Rattle.ppm_plan.specs.declared.schedule_item.ScheduleItem.{ScheduleItem}
use Rattle.ppm_answers.specs.declared.answer.Answer.{Answer}
use Rattle.ppm_answers.specs.declared.answer.Answer.TheVariants as answers
use Rattle.ppm_answers.specs.declared.status.Status.{Status}
use Rattle.ppm_answers.specs.Delivery.{IsWritten}
use Rattle.ppm_answers.specs.Reading.{DeliversAnswer}
use Rattle.ppm_answers.specs.Rows.{PlannedRows, ReadOrRefused}
use Rattle.ppm_answers.specs.Statuses.{status_of}
use Rattle.ppm_answers.proofs.RowsLemmas as rows_lemmas
use Rattle.ppm_cli.specs.declared.stop.StopOptions.{StopOptions}
use Rattle.ppm_following.specs.Followed.{followed}
use Rattle.ppm_loading.specs.Planned.{IsRefusedBy, HasByItems}
use Rattle.ppm_loading.proofs.PlannedLemmas as planned
use Rattle.ppm_saved_reader.specs.Correct.{HasState}
use Rattle.ppm_stop_command.specs.CaseStopRows.{HasRead, StopCaseSays, StopCaseRows, WritesSaved}
use Rattle.ppm_stop_command.specs.CaseStops.{TextHas, TextReads, StopCaseHas, StopCaseMay, StopCaseReads, HaveOneStopAnswer}
use Rattle.ppm_outcomes.specs.Stops.{text_of}
use Rattle.ppm_loading.specs.Telling.{MayBeRun}
use Rattle.ppm_stop_command.proofs.StopLemmas.{of_code_read, same_text}

module _ (options : StopOptions) (schedule : List ℕ) (o : Ports) where
  abbrev ByItems : List ℕ → Answer → Type 0
  ByItems = HasByItems schedule_form schedule options.processors (TextReads options)

  abbrev Read : Port → Answer → Type 0
  Read source answer = ReadOrRefused (IsRefusedBy schedule_form schedule options.processors) ByItems case_limit source answer

  -- the answer of the text that was read is the text's
  has_text : (items : List ScheduleItem) (text : List ℕ) (answer : Answer) → TextReads options items text answer → TextHas options items text answer
  has_text items text (answers.InputRefused r) h = h
  has_text items text (answers.ListingRefused r) h = h
  has_text items text answer h = record { code = h.code; input = h.input; is = h.is; has = h.has.has }

  is_answer : (text : List ℕ) (answer : Answer) → StopCaseReads options schedule text answer → StopCaseHas options schedule text answer
  is_answer text (answers.PlanRefused number) h = h
  is_answer text answer h = record { items = h.items; accepted = h.accepted; has = has_text h.items text answer h.has }

  -- what is said of faults and of want of memory
  of_ports : rows_lemmas.SaysOfPorts o (StopCaseSays options schedule o)
  of_ports = record { read_fault = λ f. f; write_fault = λ f. f; memory = tt }

  -- a text that is written is that of the state
  saves : (text : List ℕ) (h : HasRead options schedule o (answers.Saved text))
      → text ≡ text_of (followed h.2.has.has.has.start h.2.items options.after) h.2.has.input
  saves text h = same_text text (text_of (followed h.2.has.has.has.start h.2.items options.after) h.2.has.input) h.2.has.has.has.saves

  saved : (text : List ℕ) (h : HasRead options schedule o (answers.Saved text)) → IsWritten o.out o.err (answers.Saved text) (status_of (answers.Saved text))
      → WritesSaved options schedule o
  saved text h w = record {
    text = text;
    read = h;
    saves = saves text h;
    read_back = h.2.has.has.read_back;
    only = subst (λ (l : List ℕ). HasState l → MayBeRun h.2.has.code) (sym (saves text h)) h.2.has.has.only;
    gets = w.out_takes.0;
  }

  -- an answer that is written says the sentence of its status
  by : (answer : Answer) → Read o.source answer → IsWritten o.out o.err answer (status_of answer) → StopCaseSays options schedule o (status_of answer)
  by (answers.PlanRefused number) h w = (record { number = number; refused = h.0; gets = w.err_takes.0 }, h.1)
  by (answers.InputRefused r) h w = inl (r, h, w.err_takes.0)
  by (answers.ListingRefused r) h w = inr (r, h, w.err_takes.0)
  by (answers.Saved text) h w = saved text h w
  by answer h w = absurd (of_code_read options h.2.items h.2.has.code h.2.has.input answer h.2.has.has)

  module _ (status : Status) (a : DeliversAnswer (StopCaseMay options schedule o.source) o status) where
    planned_rows : PlansHaveOneAnswer → HaveOneStopAnswer
        → PlannedRows (IsRefusedBy schedule_form schedule options.processors) ByItems case_limit (StopCaseSays options schedule o) o status
    planned_rows plans one =
        planned.planned_rows schedule_form schedule options.processors (TextReads options) case_limit o status a plans.schedules
        (one.front_read options schedule) (StopCaseSays options schedule o) of_ports by

    pub stop_case_rows : PlansHaveOneAnswer → HaveOneStopAnswer → StopCaseRows options schedule o status
    stop_case_rows plans one = record {
      rows = planned_rows plans one;
      shown = λ all e well answer h.
          let k = (planned_rows plans one).rows.known all e well in
          subst (λ (x : Answer). IsWritten o.out o.err x status) (one.one options schedule all k.0 answer (is_answer all k.0 k.1) h) k.2;
    }

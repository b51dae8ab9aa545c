-- The rows of `trace` of a case.
use Rattle.std.proofs.Common.{ℕ, List, inl, inr, subst}
use Rattle.ppm_ports.specs.Ports.{Port}
use Rattle.ppm_ports.specs.Outside.{Ports}
use Rattle.ppm_case.specs.Rules.{case_limit}
use Rattle.ppm_plan.specs.Correct.{HaveOneAnswer as PlansHaveOneAnswer}
use Rattle.ppm_plan.specs.Forms.{schedule_form}
use Rattle.ppm_answers.specs.declared.answer.Answer.{Answer}
use Rattle.ppm_answers.specs.declared.answer.Answer.TheVariants as answers
use Rattle.ppm_answers.specs.declared.status.Status.{Status}
use Rattle.ppm_answers.specs.Delivery.{IsWritten}
use Rattle.ppm_answers.specs.Reading.{DeliversAnswer}
use Rattle.ppm_answers.specs.Rows.{PlannedRows, ReadOrRefused}
use Rattle.ppm_answers.specs.Statuses.{status_of}
use Rattle.ppm_answers.proofs.RowsLemmas as rows_lemmas
use Rattle.ppm_cli.specs.declared.trace.TraceOptions.{TraceOptions}
use Rattle.ppm_loading.specs.Planned.{IsRefusedBy, HasByItems}
use Rattle.ppm_loading.proofs.PlannedLemmas as planned
use Rattle.ppm_trace_command.specs.CaseTraceRows.{TraceCaseSays, TraceCaseRows}
use Rattle.ppm_trace_command.specs.CaseTraces.{TextHas, TraceCaseMay, HaveOneTraceAnswer}
use Rattle.ppm_trace_command.specs.TraceNames.{case_names}
use Rattle.ppm_trace_command.specs.Traces.{text_of}
use Rattle.ppm_trace_command.proofs.TraceLemmas.{of_case, same_text}

module _ (options : TraceOptions) (schedule : List ℕ) (o : Ports) where
  abbrev ByItems : List ℕ → Answer → Type 0
  ByItems = HasByItems schedule_form schedule options.processors (TextHas options)

  abbrev Read : Port → Answer → Type 0
  Read source answer = ReadOrRefused (IsRefusedBy schedule_form schedule options.processors) ByItems case_limit source answer

  -- what is said of faults and of want of memory
  of_ports : rows_lemmas.SaysOfPorts o (TraceCaseSays options schedule o)
  of_ports = record { read_fault = λ f. f; write_fault = λ f. f; memory = tt }

  -- an answer that is written says the sentence of its status
  by : (answer : Answer) → Read o.source answer → IsWritten o.out o.err answer (status_of answer) → TraceCaseSays options schedule o (status_of answer)
  by (answers.PlanRefused number) h w = (record { number = number; refused = h.0; gets = w.err_takes.0 }, h.1)
  by (answers.InputRefused r) h w = inl (r, h, w.err_takes.0)
  by (answers.ListingRefused r) h w = inr (r, h, w.err_takes.0)
  by (answers.Traced text) h w = record {
    text = text;
    read = h;
    tells = same_text text (text_of options (case_names h.2.has.code h.2.has.input) h.2.items h.2.has.has.start) h.2.has.has.tells;
    gets = w.out_takes.0;
  }
  by answer h w = absurd (of_case options h.2.items h.2.has.code h.2.has.input answer h.2.has.has)

  module _ (status : Status) (a : DeliversAnswer (TraceCaseMay options schedule o.source) o status) where
    planned_rows : PlansHaveOneAnswer → HaveOneTraceAnswer
        → PlannedRows (IsRefusedBy schedule_form schedule options.processors) ByItems case_limit (TraceCaseSays options schedule o) o status
    planned_rows plans one =
        planned.planned_rows schedule_form schedule options.processors (TextHas options) case_limit o status a plans.schedules
        (one.front options schedule) (TraceCaseSays options schedule o) of_ports by

    pub trace_case_rows : PlansHaveOneAnswer → HaveOneTraceAnswer → TraceCaseRows options schedule o status
    trace_case_rows plans one = record {
      rows = planned_rows plans one;
      shown = λ all e well answer h.
          let k = (planned_rows plans one).rows.known all e well in
          subst (λ (x : Answer). IsWritten o.out o.err x status) (one.one options schedule all k.0 answer k.1 h) k.2;
    }

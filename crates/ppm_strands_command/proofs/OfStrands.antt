-- The rows of `strands` by a schedule.
use Rattle.std.proofs.Common.{ℕ, List, subst, inl, inr}
use Rattle.ppm_ports.specs.Ports.{Port}
use Rattle.ppm_ports.specs.Outside.{Ports}
use Rattle.ppm_case.specs.Rules.{case_limit}
use Rattle.ppm_plan.specs.Correct.{HaveOneAnswer as PlansHaveOneAnswer}
use Rattle.ppm_plan.specs.Strands.{strand_form}
use Rattle.ppm_answers.specs.declared.sweep.Came.TheVariants as came
use Rattle.ppm_answers.specs.declared.answer.Answer.{Answer}
use Rattle.ppm_answers.specs.declared.answer.Answer.TheVariants as answers
use Rattle.ppm_answers.specs.declared.status.Status.{Status}
use Rattle.ppm_answers.specs.Delivery.{IsWritten}
use Rattle.ppm_answers.specs.Reading.{DeliversAnswer}
use Rattle.ppm_answers.specs.Rows.{PlannedRows, ReadOrRefused}
use Rattle.ppm_answers.specs.Statuses.{status_of}
use Rattle.ppm_answers.proofs.RowsLemmas as rows_lemmas
use Rattle.ppm_cli.specs.declared.strands.StrandsOptions.{StrandsOptions}
use Rattle.ppm_loading.specs.Planned.{IsRefusedBy, HasByItems}
use Rattle.ppm_loading.proofs.PlannedLemmas as planned
use Rattle.ppm_strands_command.specs.Strands.{TextHas, StrandsMay, HaveOneAnswer}
use Rattle.ppm_strands_command.specs.StrandsRows.{StrandsSays, StrandsRows}
use Rattle.ppm_strands_command.proofs.OneAnswer.{of_run}

module _ (options : StrandsOptions) (schedule : List ℕ) (o : Ports) where
  abbrev Read : Port → Answer → Type 0
  Read source answer = ReadOrRefused (IsRefusedBy strand_form schedule 1) (HasByItems strand_form schedule 1 (TextHas options)) case_limit source answer

  -- what is said of faults and of want of memory
  of_ports : rows_lemmas.SaysOfPorts o (StrandsSays options schedule o)
  of_ports = record { read_fault = λ f. f; write_fault = λ f. f; memory = tt }

  -- an answer that is written says the sentence of its status
  by : (answer : Answer) → Read o.source answer → IsWritten o.out o.err answer (status_of answer) → StrandsSays options schedule o (status_of answer)
  by (answers.PlanRefused number) h w = (record { number = number; refused = h.0; gets = w.err_takes.0 }, h.1)
  by (answers.Untidy u) h w = inr (inl (u, h, w.err_takes.0))
  by (answers.InputRefused r) h w = inr (inr (inl (r, h, w.err_takes.0)))
  by (answers.ListingRefused r) h w = inr (inr (inr (r, h, w.err_takes.0)))
  by (answers.Stood lines (came.Ended arrays)) h w = (lines, arrays, h, w.out_takes.0)
  by (answers.Stood lines (came.Trapped t line)) h w = (lines, t, line, h, w.out_takes.0)
  by (answers.Stood lines (came.Unfinished turns)) h w = (lines, turns, h, w.err_takes.0)
  by (answers.Stood lines (came.OutOfRoom place)) h w =
      absurd (of_run options h.2.items h.2.has.0.code h.2.has.0.input (answers.Stood lines (came.OutOfRoom place)) h.2.has.1)
  by (answers.Stood lines (came.Broken place)) h w =
      absurd (of_run options h.2.items h.2.has.0.code h.2.has.0.input (answers.Stood lines (came.Broken place)) h.2.has.1)
  by (answers.Fell lines c fall) h w = inl (lines, c, fall, h, w.err_takes.0)
  by (answers.AllStood runs) h w = absurd (of_run options h.2.items h.2.has.0.code h.2.has.0.input (answers.AllStood runs) h.2.has.1)
  by answer h w = absurd (of_run options h.2.items h.2.has.0.code h.2.has.0.input answer h.2.has.1)

  module _ (status : Status) (a : DeliversAnswer (StrandsMay options schedule o.source) o status) where
    planned_rows : PlansHaveOneAnswer → HaveOneAnswer
        → PlannedRows (IsRefusedBy strand_form schedule 1) (HasByItems strand_form schedule 1 (TextHas options)) case_limit
        (StrandsSays options schedule o) o status
    planned_rows plans one =
        planned.planned_rows strand_form schedule 1 (TextHas options) case_limit o status a plans.strands
        (one.front options schedule) (StrandsSays options schedule o) of_ports by

    pub strands_rows : PlansHaveOneAnswer → HaveOneAnswer → StrandsRows options schedule o status
    strands_rows plans one = record {
      rows = planned_rows plans one;
      shown = λ all e well answer h.
          let k = (planned_rows plans one).rows.known all e well in
          subst (λ (x : Answer). IsWritten o.out o.err x status) (one.one options schedule all k.0 answer k.1 h) k.2;
    }

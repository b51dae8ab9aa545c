use Rattle.ppm_text.specs.Limits.{text_limit}
use Rattle.ppm_plan.specs.Forms.{schedule_form}
use Rattle.ppm_loading.proofs.PlannedLemmas.{planned_done}
use Rattle.ppm_trace_command.specs.Traces.{TextHas}
use Rattle.ppm_trace_command.proofs.OfTrace.{trace_rows}
use Rattle.ppm_trace_command.proofs.trace.trace_command.Goals as goal

-- the answer was delivered, or out of memory in its place, and the rows follow from it
pub returns : goal.returns
returns g c = record {
  delivers = planned_done schedule_form c.args.schedule.now c.args.options.processors (TextHas c.args.options) text_limit
      c.have_one_answer.ensures.law.schedules _ _ _ c.read_answer-answer.ensures c.deliver.ensures;
  rows = trace_rows c.args.options c.args.schedule.now _ _
      (planned_done schedule_form c.args.schedule.now c.args.options.processors (TextHas c.args.options) text_limit
      c.have_one_answer.ensures.law.schedules _ _ _ c.read_answer-answer.ensures c.deliver.ensures)
      c.have_one_answer.ensures.law c.traces_have_one_answer.ensures.law;
}

use Rattle.ppm_legs.proofs.OfSavedTrace.{trace_delivered, trace_rows}
use Rattle.ppm_legs.proofs.trace_saved.trace_saved_command.Goals as goal

-- the answer was delivered, or out of memory in its place, and the rows follow from it
pub returns : goal.returns
returns g c = record {
  delivers = trace_delivered c.args.options c.args.schedule.now _ _ _ c.read_answer-answer.ensures c.deliver.ensures;
  rows = trace_rows c.resume_laws.ensures.law c.args.options c.args.schedule.now _ _
      (trace_delivered c.args.options c.args.schedule.now _ _ _ c.read_answer-answer.ensures c.deliver.ensures)
      c.saved_traces_have_one_answer.ensures.law;
}

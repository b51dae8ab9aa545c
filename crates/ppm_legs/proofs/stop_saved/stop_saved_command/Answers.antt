use Rattle.ppm_legs.proofs.OfSavedStop.{stop_delivered, stop_rows}
use Rattle.ppm_legs.proofs.stop_saved.stop_saved_command.Goals as goal

-- the answer was delivered, or out of memory in its place, and the rows follow from it
pub returns : goal.returns
returns g c = record {
  delivers = stop_delivered c.args.options c.args.schedule.now _ _ _ c.read_answer-answer.ensures c.deliver.ensures;
  rows = stop_rows c.resume_laws.ensures.law c.args.options c.args.schedule.now _ _
      (stop_delivered c.args.options c.args.schedule.now _ _ _ c.read_answer-answer.ensures c.deliver.ensures) c.requires.options
      c.saved_stops_have_one_answer.ensures.law c.stops_go_on_chains.ensures.law;
}

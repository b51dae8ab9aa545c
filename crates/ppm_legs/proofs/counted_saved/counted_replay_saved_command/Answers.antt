use Rattle.ppm_legs.proofs.OfCountedLeg.{counted_delivered, counted_rows}
use Rattle.ppm_legs.proofs.counted_saved.counted_replay_saved_command.Goals as goal

-- the answer was delivered, or out of memory in its place, and the rows follow from it
pub returns : goal.returns
returns g c = record {
  delivers = counted_delivered c.args.options c.args.schedule.now _ _ _ c.read_answer-answer.ensures c.deliver.ensures;
  rows = counted_rows c.resume_laws.ensures.law c.args.options c.args.schedule.now _ _
      (counted_delivered c.args.options c.args.schedule.now _ _ _ c.read_answer-answer.ensures c.deliver.ensures)
      c.counted_saved_replays_have_one_answer.ensures.law;
}

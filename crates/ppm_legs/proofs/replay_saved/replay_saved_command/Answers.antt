use Rattle.ppm_legs.proofs.OfSavedReplay.{replay_delivered, replay_rows}
use Rattle.ppm_legs.proofs.replay_saved.replay_saved_command.Goals as goal

-- the answer was delivered, or out of memory in its place, and the rows follow from it
pub returns : goal.returns
returns g c = record {
  delivers = replay_delivered c.args.options c.args.schedule.now _ _ _ c.read_answer-answer.ensures c.deliver.ensures;
  rows = replay_rows c.resume_laws.ensures.law c.args.options c.args.schedule.now _ _
      (replay_delivered c.args.options c.args.schedule.now _ _ _ c.read_answer-answer.ensures c.deliver.ensures)
      c.saved_replays_have_one_answer.ensures.law;
}

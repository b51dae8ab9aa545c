use Rattle.ppm_text.specs.Limits.{text_limit}
use Rattle.ppm_plan.specs.Forms.{schedule_form}
use Rattle.ppm_replay_command.specs.CountedReplays.{TextHas}
use Rattle.ppm_loading.proofs.PlannedLemmas.{planned_done}
use Rattle.ppm_replay_command.proofs.OfCounted.{counted_rows}
use Rattle.ppm_replay_command.proofs.counted.counted_replay_command.Goals as goal

-- the answer was delivered, or out of memory in its place, and the rows follow from it
pub returns : goal.returns
returns g c = record {
  delivers = planned_done schedule_form c.args.schedule.now c.args.options.processors (TextHas c.args.options) text_limit
      c.have_one_answer.ensures.law.schedules _ _ _ c.read_answer-answer.ensures c.deliver.ensures;
  rows = counted_rows c.runs_are_as_programs.ensures.law c.args.options c.requires.options c.args.schedule.now _ _
      (planned_done schedule_form c.args.schedule.now c.args.options.processors (TextHas c.args.options) text_limit
      c.have_one_answer.ensures.law.schedules _ _ _ c.read_answer-answer.ensures c.deliver.ensures)
      c.have_one_answer.ensures.law c.counted_replays_have_one_answer.ensures.law;
}

use Rattle.ppm_core.specs.Machine.{seen}
use Rattle.ppm_legs.proofs.SavedReplayLemmas.{leg_said}
use Rattle.ppm_legs.proofs.replay_saved.leg_answer.Goals as goal

-- what the leg came to, with the machine's forks and takes
pub returns : goal.returns
returns c =
    leg_said (seen c.args.machine.now) c.in_ok-came.came c.tally_of-tally.result c.answer_with.result c.tally_of-tally.ensures c.answer_with.ensures
    c.in_ok-came.ensures

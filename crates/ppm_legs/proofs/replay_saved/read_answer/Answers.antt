use Rattle.ppm_outcomes.specs.Resumes.{state_of}
use Rattle.ppm_legs.specs.SavedReplays.{StateReplays}
use Rattle.ppm_legs.proofs.LegLemmas.{leg_has, leg_wants, no_leg}
use Rattle.ppm_legs.proofs.SavedReplayLemmas.{kinds}
use Rattle.ppm_legs.proofs.replay_saved.read_answer.Goals as goal

-- what the leg comes to
pub returns-in-Ok-replayed : goal.returns-in-Ok-replayed
returns-in-Ok-replayed g c =
    leg_has (StateReplays c.args.options) c.args.schedule.now _ (state_of c.in-Ok.saved) c.in-Ok.schedule.items c.in-Ok.ensures.leg (kinds c.args.options) _
    c.in-Ok-replayed.ensures

-- memory was wanting in it
pub returns-in-Ok : goal.returns-in-Ok
returns-in-Ok g c =
    leg_wants (StateReplays c.args.options) c.args.schedule.now _ (state_of c.in-Ok.saved) c.in-Ok.schedule.items c.in-Ok.ensures.leg

-- nothing was run
pub returns : goal.returns
returns g c = no_leg (StateReplays c.args.options) c.args.schedule.now _ c.in-Err.answer c.in-Err.ensures.none

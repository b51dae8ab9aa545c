use Rattle.ppm_outcomes.specs.Resumes.{state_of}
use Rattle.ppm_legs.specs.CountedReplays.{StateCounts}
use Rattle.ppm_legs.proofs.LegLemmas.{leg_has, leg_wants, no_leg}
use Rattle.ppm_legs.proofs.CountedLegLemmas.{kinds}
use Rattle.ppm_legs.proofs.counted_saved.read_answer.Goals as goal

-- what the leg comes to, and what was counted in it
pub returns-in-Ok-counted : goal.returns-in-Ok-counted
returns-in-Ok-counted g c =
    leg_has (StateCounts c.args.options) c.args.schedule.now _ (state_of c.in-Ok.saved) c.in-Ok.schedule.items c.in-Ok.ensures.leg (kinds c.args.options) _
    c.in-Ok-counted.ensures

-- memory was wanting in it
pub returns-in-Ok : goal.returns-in-Ok
returns-in-Ok g c =
    leg_wants (StateCounts c.args.options) c.args.schedule.now _ (state_of c.in-Ok.saved) c.in-Ok.schedule.items c.in-Ok.ensures.leg

-- nothing was run
pub returns : goal.returns
returns g c = no_leg (StateCounts c.args.options) c.args.schedule.now _ c.in-Err.answer c.in-Err.ensures.none

use Rattle.std.proofs.Common.{arith}
use Rattle.ppm_outcomes.specs.Resumes.{state_of}
use Rattle.ppm_legs.proofs.SavedReplayLemmas.{leg_has, leg_lengths}
use Rattle.ppm_legs.proofs.replay_saved.replayed.Goals as goal

-- the machine after the leg has the arrays of the state
pub leg_answer-requires : goal.leg_answer-requires
leg_answer-requires c = record {
  lengths = leg_lengths (state_of c.args.saved) c.args.schedule.now.items c.args.options.turns _ c.in_ok-gone.ensures.leg _ c.in_ok-gone.ensures.names;
}

-- what is said of it is the answer
pub returns : goal.returns
returns c =
    leg_has c.args.options c.args.schedule.now.items (state_of c.args.saved) c.requires.there.0 c.requires.there.1 c.requires.stands c.keeper.result
    c.keeper.ensures.keeper (omega (arith, c.keeper.ensures.below, c.requires.processors)) _ c.in_ok-gone.ensures.leg _ c.in_ok-gone.ensures.names _
    c.in_ok-answer.ensures

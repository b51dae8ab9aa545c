use Rattle.std.proofs.Common.{arith}
use Rattle.ppm_outcomes.specs.Resumes.{state_of}
use Rattle.ppm_legs.proofs.CountedLegLemmas.{counted_lengths, leg_counts}
use Rattle.ppm_legs.proofs.counted_saved.counted.Goals as goal

-- the machine after the leg has the arrays of the state
pub leg_came-requires : goal.leg_came-requires
leg_came-requires c = record {
  lengths = counted_lengths (state_of c.args.saved) c.args.schedule.now.items c.args.options.turns _ _ c.in_ok-gone.ensures.leg _
      c.in_ok-gone.ensures.names;
}

-- what is said of it, with what was counted, is the answer
pub returns : goal.returns
returns c =
    leg_counts c.counts_are_of_turns.ensures.law c.args.options c.args.schedule.now.items (state_of c.args.saved) _ _ c.in_ok-gone.ensures.leg
    c.requires.there.0 c.requires.there.1 c.requires.stands c.keeper.result c.keeper.ensures.keeper
    (omega (arith, c.keeper.ensures.below, c.requires.processors)) _ c.in_ok-gone.ensures.names _ c.in_ok-came.ensures

use Rattle.std.proofs.Common.{arith, ap, ◌∙◌, sym}
use Rattle.ppm_cells.specs.declared.shape.Shape.{Shape}
use Rattle.ppm_core.specs.Situation.{Situation}
use Rattle.ppm_legs.proofs.CountedLegLemmas.{counted_leg_is, few_acts}
use Rattle.ppm_legs.proofs.leg.counted_leg.Goals as goal

-- the schedule is for the machine's processors, and the acts are few
pub count_replay-requires : goal.count_replay-requires
count_replay-requires c = record {
  processors = c.requires.processors ∙ sym (ap (λ (s : Shape). s.processors) c.renew-renewed.ensures.shape_is)
      ∙ sym (ap (λ (m : Situation). m.shape.processors) c.in_ok-machine.ensures);
  turns = few_acts c.args.acts c.requires.acts;
  few = omega (arith, ap (λ (m : Situation). m.turns) c.in_ok-machine.ensures);
}

-- the machine goes on with what fresh processors find, and the counts are those of its turns
pub returns-clause-leg : goal.returns-clause-leg
returns-clause-leg c =
    counted_leg_is c.args.saved _ _ _ _ c.args.schedule.now.items c.args.acts _ c.renew-renewed.ensures c.in_ok-machine.ensures
    c.in_ok-counts.ensures.followed c.in_ok-counts.ensures.counts

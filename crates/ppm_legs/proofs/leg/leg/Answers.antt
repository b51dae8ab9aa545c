use Rattle.ppm_legs.proofs.LegLemmas.{leg_is}
use Rattle.ppm_legs.proofs.leg.leg.Goals as goal

-- the machine goes on with what fresh processors find
pub returns-clause-leg : goal.returns-clause-leg
returns-clause-leg c = leg_is c.args.saved _ _ _ _ c.args.schedule.now.items c.args.acts c.renew-image.ensures c.in_ok-machine.ensures c.follow.ensures

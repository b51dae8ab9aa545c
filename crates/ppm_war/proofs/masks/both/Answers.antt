use Rattle.ppm_war.proofs.MaskLemmas.{or_left, or_right}
use Rattle.ppm_war.proofs.masks.both.Goals as goal

-- each set's bits stay
pub returns-clause-left : goal.returns-clause-left
returns-clause-left c = or_left c.args.a c.args.b

pub returns-clause-right : goal.returns-clause-right
returns-clause-right c = or_right c.args.a c.args.b

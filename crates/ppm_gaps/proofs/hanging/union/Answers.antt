use Rattle.ppm_gaps.proofs.HangingLemmas.{in_either}
use Rattle.ppm_gaps.proofs.hanging.union.Goals as goal

-- a bit of one or the other
pub returns : goal.returns
returns c = λ r. in_either c.args.a c.args.b r

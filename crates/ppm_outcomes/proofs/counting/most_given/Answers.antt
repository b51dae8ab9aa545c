use Rattle.std.proofs.Common.{arith}
use Rattle.ppm_following.proofs.GivenLemmas.{most_step}
use Rattle.ppm_outcomes.proofs.counting.most_given.Goals as goal

-- a place more
pub loop-place-preserved : goal.loop-place-preserved
loop-place-preserved c = (
  most_step c.args.closed.now.shape c.args.closed.now.words c.loop-place.place _ _ _ c.loop-place.invariant.0 c.given_by.ensures c.larger-most.ensures,
  omega (arith, c.loop-place-test.true),
)

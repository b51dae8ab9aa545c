use Rattle.std.proofs.Common.{arith}
use Rattle.ppm_following.proofs.GivenLemmas.{most_step}
use Rattle.ppm_trace.proofs.room.most_given.Goals as goal

-- a place more
pub loop-place-preserved : goal.loop-place-preserved
loop-place-preserved c = (
  most_step c.args.shape c.args.words.now c.loop-place.place _ _ _ c.loop-place.invariant.0 c.given_by.ensures c.larger-most.ensures,
  omega (arith, c.loop-place-test.true),
)

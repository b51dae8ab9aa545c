use Rattle.ppm_core.proofs.LocalLemmas.{one_lost}
use Rattle.ppm_core.proofs.machine.lost_locals.Goals as goal

-- one more that is lost
pub loop-own-preserved : goal.loop-own-preserved
loop-own-preserved c =
    rw (c.in_ok-push.ensures.items) (
    one_lost c.args.shape.now c.args.code.now c.loop-own.own c.loop-own.locals.items c.lost.result c.loop-own.invariant
    (c.lost.ensures.holds c.args.shape.now c.args.code.now c.loop-own-test.true) c.lost.ensures.own
    (c.lost.ensures.stands c.args.shape.now c.args.code.now)
    )

-- One more that stands.
use Rattle.std.proofs.Common.{subst}
use Rattle.ppm_interleaving.proofs.FallenLemmas.{SoFar, more_so_far}
use Rattle.ppm_interleaving.proofs.fallen.first_fallen.Goals as goal

pub loop-change-preserved : goal.loop-change-preserved
loop-change-preserved c =
    more_so_far c.args.words.now c.args.changes.now c.in-Some.rest.now c.in-Some.change.now c.loop-change.number
    (subst (λ l. SoFar c.args.words.now c.args.changes.now l c.loop-change.number) c.in-Some.ensures.cases.0 c.loop-change.invariant)
    (c.is_still.ensures.0 c.if-not-is_still.false)

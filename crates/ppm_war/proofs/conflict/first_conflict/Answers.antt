use Rattle.std.proofs.Common.{arith}
use Rattle.ppm_war.proofs.ConflictLemmas.{all_met}
use Rattle.ppm_war.proofs.DecodedLemmas.{decoded_length}
use Rattle.ppm_war.proofs.conflict.first_conflict.Goals as goal

-- none is seen at once
pub returns-then-is_free : goal.returns-then-is_free
returns-then-is_free c = λ is d. c.is_free.ensures is d c.if-is_free.true

-- no class so far
pub loop-place-init : goal.loop-place-init
loop-place-init c = λ is d read write k below x. omega (arith, below.1)

-- and those of this place
pub loop-place-preserved : goal.loop-place-preserved
loop-place-preserved c = λ is d. c.with_class_at-found.ensures is d (c.loop-place.invariant is d)

-- all classes were met
pub returns : goal.returns
returns c = λ is d.
    all_met is c.loop-place.place c.loop-place.found (omega (arith, decoded_length is c.args.mays.now d, c.loop-place-test.false)) (c.loop-place.invariant is d)

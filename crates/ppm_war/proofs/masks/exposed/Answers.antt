use Rattle.std.proofs.Common.{arith, replicate}
use Rattle.ppm_code.specs.Paths.{Exposes}
use Rattle.ppm_war.proofs.DecodedLemmas.{decoded_length, does_at}
use Rattle.ppm_war.proofs.MarkLemmas.{path_met}
use Rattle.ppm_war.proofs.MaskLemmas.{all_at_first, further}
use Rattle.ppm_war.proofs.masks.exposed.Goals as goal

-- all classes are exposed at the first place
pub loop-at-init : goal.loop-at-init
loop-at-init c = λ is k to d less. all_at_first is k (replicate 161 0) (omega arith) to

-- and after an instruction those that it does not write
pub loop-at-preserved : goal.loop-at-preserved
loop-at-preserved c = λ is k to d.
    further is k c.loop-at.at _ c.loop-at.masks c.expose.new.masks (does_at is c.args.mays.now c.loop-at.at _ d c.loop-at-test.true)
    (omega (arith, c.requires, c.loop-at-test.true)) (c.expose.ensures.kept k) (c.expose.ensures.goes k) (λ to less. c.loop-at.invariant is k to d less) to

-- all places were met
pub returns : goal.returns
returns c = λ is k to d less p.
    let whole = decoded_length is c.args.mays.now d in
    c.loop-at.invariant is k to d (omega (arith, c.requires, less, whole))
    (path_met is (Exposes k) 0 c.loop-at.at to (omega (arith, c.loop-at-test.false, less, whole)) p)

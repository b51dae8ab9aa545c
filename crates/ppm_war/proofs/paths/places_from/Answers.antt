use Rattle.std.proofs.Common.{arith}
use Rattle.ppm_war.specs.Marks.{Allows}
use Rattle.ppm_war.proofs.DecodedLemmas.{decoded_length, does_at}
use Rattle.ppm_war.proofs.MarkLemmas.{begun, grown, met}
use Rattle.ppm_war.proofs.paths.places_from.Goals as goal

-- at the beginning the place itself is marked
pub loop-at-init : goal.loop-at-init
loop-at-init c = λ is to d. begun is (Allows c.args.class) c.mark.new.marks c.args.from 160 c.mark.ensures to

-- the place that is met is marked exactly where a path comes to it
pub loop-at-preserved : goal.loop-at-preserved
loop-at-preserved c = λ is to d.
    grown is (Allows c.args.class) c.args.from c.loop-at.at _ (does_at is c.args.mays.now c.loop-at.at _ d c.loop-at-test.true)
    c.loop-at.marks c.pass.new.marks (omega (arith, c.requires, c.loop-at-test.true)) (λ to less. c.loop-at.invariant is to d less) c.pass.ensures to

-- all places were met
pub returns : goal.returns
returns c = λ is to d less.
    let whole = decoded_length is c.args.mays.now d in
    let all = c.loop-at.invariant is to d (omega (arith, c.requires, less, whole)) in
    let is_met = met is (Allows c.args.class) c.args.from c.loop-at.at to (omega (arith, c.loop-at-test.false, less, whole)) in
    (λ h. is_met.0 (all.0 h), λ h. all.1 (is_met.1 h))

use Rattle.std.proofs.Common.{sym}
use Rattle.ppm_stretch.proofs.SeekingLemmas.{own_again}
use Rattle.ppm_stretch.proofs.seeking.stand_after_holder.Goals as goal

pub returns-then-victim-place-clause-stands : goal.returns-then-victim-place-clause-stands
returns-then-victim-place-clause-stands c =
    sym (own_again c.args.shape.now c.args.code.now c.args.place.now c.args.victim c.args.word c.in-Some.holder c.in-Some.ensures.value c.if-victim-place.true)

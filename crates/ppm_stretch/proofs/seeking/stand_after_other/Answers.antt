use Rattle.std.proofs.Common.{◌∙◌, sym, ap}
use Rattle.ppm_step.specs.Standings.{Standing, went}
use Rattle.ppm_stretch.proofs.SeekingLemmas.{held_on}
use Rattle.ppm_stretch.proofs.seeking.stand_after_other.Goals as goal

pub returns-in_default-clause-stands : goal.returns-in_default-clause-stands
returns-in_default-clause-stands c =
    c.observe.ensures.stands
    ∙ ap (λ (st : Standing). went c.args.shape.now c.args.code.now c.args.local.now.own c.args.victim c.args.word st) c.requires.stands

pub wait_within-requires-clause-looks : goal.wait_within-requires-clause-looks
wait_within-requires-clause-looks c = c.in-Some.ensures.0

pub returns-clause-stands : goal.returns-clause-stands
returns-clause-stands c =
    c.wait_within.ensures.stands
    ∙ sym (held_on c.args.shape.now c.args.code.now c.args.place.now c.args.victim c.args.word c.args.holder c.in-Some.point c.requires.holder.0 c.in-Some.ensures)

use Rattle.std.proofs.Common.{◌∙◌, refl, sym}
use Rattle.ppm_stretch.proofs.LookingLemmas.{within_of}
use Rattle.ppm_stretch.proofs.rows.steps_within.Goals as goal

pub looks_along-requires-clause-own : goal.looks_along-requires-clause-own
looks_along-requires-clause-own g c κs within =
    (within_of c.args.shape.now c.args.code.now c.args.local.now c.in-Within.seat c.in-Within.row c.in-Now.next c.in-Load.point c.in-Within.is c.in-Now.is c.in-Load.is
    c.requires.local).1

pub looks_along-requires-clause-seat : goal.looks_along-requires-clause-seat
looks_along-requires-clause-seat g c κs within = (
  (within_of c.args.shape.now c.args.code.now c.args.local.now c.in-Within.seat c.in-Within.row c.in-Now.next c.in-Load.point c.in-Within.is c.in-Now.is c.in-Load.is
      c.requires.local).0,
  (c.if-is_look.ensures refl).0,
)

pub looks_along-requires-clause-looks : goal.looks_along-requires-clause-looks
looks_along-requires-clause-looks g c κs within =
    let facts = within_of c.args.shape.now c.args.code.now c.args.local.now c.in-Within.seat c.in-Within.row c.in-Now.next c.in-Load.point c.in-Within.is c.in-Now.is
    c.in-Load.is c.requires.local in
    let look = c.if-is_look.ensures refl in
    record { is = look.1; due = look.2 c.in-Within.seat; fits = facts.2; there = facts.3 }

pub looks_along-requires-clause-stands : goal.looks_along-requires-clause-stands
looks_along-requires-clause-stands g c κs within =
    sym c.requires.stands
    ∙ (within_of c.args.shape.now c.args.code.now c.args.local.now c.in-Within.seat c.in-Within.row c.in-Now.next c.in-Load.point c.in-Within.is c.in-Now.is c.in-Load.is
    c.requires.local).4

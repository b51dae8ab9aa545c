use Rattle.std.proofs.Common.{◌∙◌, refl, ap}
use Rattle.ppm_code.specs.declared.act.End.{End}
use Rattle.ppm_code.specs.declared.work.Reached.{Reached}
use Rattle.ppm_code.specs.declared.work.Reached.TheVariants.{AtEnd}
use Rattle.ppm_step.specs.Standings.{IsBroken}
use Rattle.ppm_core.specs.declared.capsule.Way.TheVariants.{Stops}
use Rattle.ppm_core.proofs.CapsuleLemmas.{along_to_end}
use Rattle.ppm_core.proofs.MomentLemmas.{both}
use Rattle.ppm_core.proofs.frames.round.Goals as goal

-- the capsule, and the stores with which its frame goes round
pub returns-in-Round-clause-circled : goal.returns-in-Round-clause-circled
returns-in-Round-clause-circled c =
    both c.args.shape.now c.args.code.now c.args.seat.now.own
    (along_to_end c.args.shape.now c.args.code.now c.args.seat.now c.args.coming.now c.capsule_along.new.registers c.args.words.now.items c.capsule_along.new.words.items c.in-Some.stretch
    c.in-Stops.field-0 c.in-Next.capsule (c.in-Stops.is ∙ ap (λ (what : Reached). Stops c.in-Stops.field-0 what) c.in-AtEnd.is ∙ ap (λ (end : End). Stops c.in-Stops.field-0 (AtEnd end)) c.in-Next.is) c.in-Some.ensures.along)
    c.in-Round.ensures.turned

-- or as many of them as are there
pub returns-in-Breaks-clause-circled : goal.returns-in-Breaks-clause-circled
returns-in-Breaks-clause-circled c = (
  IsBroken c.args.seat.now.place,
  refl,
  both c.args.shape.now c.args.code.now c.args.seat.now.own
      (along_to_end c.args.shape.now c.args.code.now c.args.seat.now c.args.coming.now c.capsule_along.new.registers c.args.words.now.items c.capsule_along.new.words.items c.in-Some.stretch
      c.in-Stops.field-0 c.in-Next.capsule (c.in-Stops.is ∙ ap (λ (what : Reached). Stops c.in-Stops.field-0 what) c.in-AtEnd.is ∙ ap (λ (end : End). Stops c.in-Stops.field-0 (AtEnd end)) c.in-Next.is) c.in-Some.ensures.along)
      c.in-Breaks.ensures.turned.1,
)

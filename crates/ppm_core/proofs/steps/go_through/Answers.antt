use Rattle.std.proofs.Common.{◌∙◌, sym, arith}
use Rattle.ppm_core.proofs.MomentLemmas.{further, goes_on, holds_on}
use Rattle.ppm_core.proofs.steps.go_through.Goals as goal

-- a step more, behind which the capsule goes on
pub loop-made-preserved : goal.loop-made-preserved
loop-made-preserved c =
    let s = c.args.shape.now in
    let code = c.args.code.now in
    let own = c.args.running.now.seat.own in
    let inv = c.loop-made.invariant in
    let goes = sym c.is_under_way.ensures ∙ c.if-not-is_under_way.false in (
      goes_on s code own c.make_step-going.result goes
          (further s code own inv.0 (sym c.finish_word.ensures ∙ c.if-finish_word-ne0.false) c.make_step-going.ensures inv.2),
      holds_on s code own c.make_step-going.result goes c.make_step-going.ensures.holds,
      c.make_step-going.ensures.seat ∙ inv.2,
      c.make_step-going.ensures.count,
      omega (arith, c.loop-made-test.true),
    )

-- or does not
pub returns-then-not-is_under_way-clause-leads : goal.returns-then-not-is_under_way-clause-leads
returns-then-not-is_under_way-clause-leads c =
    let inv = c.loop-made.invariant in
    further c.args.shape.now c.args.code.now c.args.running.now.seat.own inv.0
    (sym c.finish_word.ensures ∙ c.if-finish_word-ne0.false) c.make_step-going.ensures inv.2

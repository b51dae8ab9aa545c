use Rattle.std.proofs.Common.{◌∙◌, subst, arith}
use Rattle.ppm_core.specs.Moments.{moment, Leads}
use Rattle.ppm_step.specs.Locals.{standing_of}
use Rattle.ppm_core.proofs.MomentLemmas.{leads_both}
use Rattle.ppm_core.proofs.steps.step_along.Goals as goal

-- some steps more
pub loop-steps-preserved : goal.loop-steps-preserved
loop-steps-preserved c =
    let s = c.args.shape.now in
    let code = c.args.code.now in
    let inv = c.loop-steps.invariant in
    let more = c.steps_from-more.result in
    let new = c.steps_from-more.new in (
      leads_both s code c.args.local.now.own inv.0
          (subst
          (λ own. Leads s code own more.made more.work more.forks more.takes
          (moment c.loop-steps.words.items (standing_of s code c.loop-steps.local)) (moment new.words.items (standing_of s code new.local)))
          inv.3 c.steps_from-more.ensures.leads),
      c.steps_from-more.ensures.holds,
      c.steps_from-more.ensures.count,
      c.steps_from-more.ensures.own ∙ inv.3,
      omega (arith, c.loop-steps-test.true, c.steps_from-more.ensures.few.0),
      omega (arith, inv.5, c.steps_from-more.ensures.few.1),
      omega (arith, inv.6, c.steps_from-more.ensures.few.2),
      omega (arith, inv.7, c.steps_from-more.ensures.few.3),
    )

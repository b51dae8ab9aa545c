use Rattle.std.proofs.Common.{◌+◌, ◌≡◌, ℕ, subst, arith}
use Rattle.ppm_step.specs.Frames.{ending}
use Rattle.ppm_core.specs.declared.ends.EndStep.TheVariants.{Gone}
use Rattle.ppm_core.specs.Ends.{HasEnded}
use Rattle.ppm_core.proofs.MomentLemmas.{both}
use Rattle.ppm_core.proofs.ends.end_along.Goals as goal

as_many : (n : ℕ) → n + 0 ≡ n
as_many n = omega arith

-- a store more
pub loop-made-preserved : goal.loop-made-preserved
loop-made-preserved c =
    let i = c.loop-made.invariant in (
      omega (arith, c.loop-made-test.true),
      both c.args.shape.now c.args.code.now c.args.seat.now.own i.1 c.in-Before.ensures.ended,
      c.in-Before.ensures.count,
    )

-- or that of the restart word
pub returns-in-Installed-clause-ended : goal.returns-in-Installed-clause-ended
returns-in-Installed-clause-ended c =
    (both c.args.shape.now c.args.code.now c.args.seat.now.own c.loop-made.invariant.1 c.in-Installed.ensures.ended.0, c.in-Installed.ensures.ended.1)

-- or what comes next isn't there
pub returns-in-Gone-clause-ended : goal.returns-in-Gone-clause-ended
returns-in-Gone-clause-ended c =
    let left = ending c.args.code.now c.args.home.now c.args.end in
    subst (λ (n : ℕ). HasEnded c.args.shape.now c.args.code.now c.args.seat.now left (left 0) c.args.words.now.items c.end_at.new.words.items n Gone)
    (as_many c.loop-made.made) (both c.args.shape.now c.args.code.now c.args.seat.now.own c.loop-made.invariant.1 c.in-Gone.ensures.ended)

use Rattle.std.proofs.Common.{◌≡◌, ◌∙◌, ℕ, true, false, sym, subst}
use Rattle.ppm_plan.specs.Forms.{plan_form}
use Rattle.ppm_plan.specs.Refusals.{IsKeeper}
use Rattle.ppm_locked.proofs.driving.run_seat.Goals as goal

-- the keeper doesn't leave
pub returns-then-leaves : goal.returns-then-leaves
returns-then-leaves g c = λ keeper.
    let is = c.keeps-is_keeper.ensures (subst (λ (n : ℕ). IsKeeper plan_form c.args.plan.now.items n) (sym c.processor-own.ensures.value) keeper) in
    let left = c.leaves.ensures c.if-leaves.true in
    absurd (let e : true ≡ false = sym is ∙ left in cc)

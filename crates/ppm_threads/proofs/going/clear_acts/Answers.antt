use Rattle.std.proofs.Common.{◌≡◌, ◌∙◌, ◌^◌, ℕ, Bool, true, false, if◌then◌else◌, nat_lt, None, List, [], ◌∷◌, length, refl, sym, ap, arith}
use Rattle.ppm_plan.specs.Faults.{fault_at}
use Rattle.ppm_plan.specs.declared.plan_item.PlanItem.{PlanItem}
use Rattle.ppm_choice.specs.Obeying.{fault_of}
use Rattle.ppm_choice.proofs.StepsLemmas.{are_clear}
use Rattle.ppm_threads.proofs.going.clear_acts.Goals as goal

none_of : (items : List PlanItem) → length items ≡ 0 → items ≡ []
none_of [] e = refl
none_of (i ∷ items) e = absurd (omega (arith, e))

no_fault_of : (processor act : ℕ) (b : Bool) → (if b then fault_at [] processor act else None) ≡ None
no_fault_of processor act true = refl
no_fault_of processor act false = refl

no_fault : (items : List PlanItem) (processor act : ℕ) → length items ≡ 0 → fault_of items processor act ≡ None
no_fault items processor act none =
    ap (λ (l : List PlanItem). fault_of l processor act) (none_of items none) ∙ no_fault_of processor act (nat_lt act (2 ^ 32))

-- a plan without items has no faults
pub returns-then-items-eq0 : goal.returns-then-items-eq0
returns-then-items-eq0 c past stood p =
    let plan = c.args.crew.now.plan.now in
    let empty : length plan.items ≡ 0 = ap (λ (l : List PlanItem). length l) (sym c.items.ensures) ∙ c.if-items-eq0.true in
    are_clear plan c.args.crew.now.limits past stood c.args.pace.now p None c.saturating_sub.result
    (λ k ahead. no_fault plan.items c.args.pace.now.processor _ empty) c.saturating_sub.ensures

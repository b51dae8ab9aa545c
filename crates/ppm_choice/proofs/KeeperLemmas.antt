-- There is one keeper.
use Rattle.std.proofs.Common.{◌≡◌, ◌⊎◌, ◌<◌, ◌↔◌, ◌==◌, ℕ, Bool, IsTrue, List, inl, inr, sym, ◌∙◌, subst}
use Rattle.std.proofs.lemmas.Bool.{cases_order, both_ways, eqb-true, eq-eqb}
use Rattle.ppm_plan.specs.declared.plan_item.PlanItem.{PlanItem}
use Rattle.ppm_plan.specs.Forms.{Form, plan_form}
use Rattle.ppm_plan.specs.Refusals.{IsKeeper, is_killed}

pub one_keeper : {A : Type 0} (form : Form A) (items : List A) (a b : ℕ) → IsKeeper form items a → IsKeeper form items b → a ≡ b
one_keeper form items a b k l = go (cases_order a b)
  where
    go : (a ≡ b) ⊎ ((a < b) ⊎ (b < a)) → a ≡ b
    go (inl same) = same
    go (inr (inl less)) = absurd (both_ways (is_killed form a items) k.spared (l.least a less))
    go (inr (inr more)) = absurd (both_ways (is_killed form b items) l.spared (k.least b more))

-- a processor is the keeper where it is this one
pub is_keeper : (items : List PlanItem) (keeper processor : ℕ) (is : Bool) → is ≡ (keeper == processor) → IsKeeper plan_form items keeper
    → IsTrue is ↔ IsKeeper plan_form items processor
is_keeper items keeper processor is e k = (
  λ true_is. subst (λ c. IsKeeper plan_form items c) (eqb-true keeper processor (sym e ∙ true_is)) k,
  λ other. e ∙ eq-eqb keeper processor (one_keeper plan_form items keeper processor k other),
)

-- A loop over the items of a plan.
use Rattle.std.proofs.Common.{◌≡◌, ◌∙◌, ℕ, ◌+◌, ◌-◌, ◌≤◌, if◌then◌else◌, List, [], ◌∷◌, length, get_or, take, drop, take_all, le_refl, ap, arith}
use Rattle.std.specs.List.{list_any}
use Rattle.ppm_plan.specs.declared.plan_item.PlanItem.{PlanItem}
use Rattle.ppm_plan.specs.Faults.{is_at}
use Rattle.ppm_outcomes.specs.Strikes.{fault_count}

-- what is left after the first item
rest_is : (i : PlanItem) (items : List PlanItem) → take (length (i ∷ items) - 1) items ≡ items
rest_is i items =
    let one : length (i ∷ items) - 1 ≡ length items = omega arith in
    ap (λ k. take k items) one ∙ take_all (length items) items (le_refl (length items))

-- one for an item whose turn none of these has
abbrev pub one_of : PlanItem → List PlanItem → ℕ
one_of item others = if list_any (is_at item.processor item.turn) others then 0 else 1

-- an item more, by the first one and those after it
pub faults_step : (count n all : ℕ) (left : List PlanItem) (d : PlanItem) → 1 ≤ length left
    → n ≡ one_of (get_or left 0 d) (take (length left - 1) (drop 1 left)) → count + fault_count left ≡ all
    → count + n + fault_count (take (length left - 1) (drop 1 left)) ≡ all
faults_step count n all [] d h e whole = absurd (omega (arith, h))
faults_step count n all (i ∷ items) d h e whole =
    let own : n ≡ one_of i items = e ∙ ap (one_of i) (rest_is i items) in
    ap (λ l. count + n + fault_count l) (rest_is i items) ∙ omega (arith, own, whole)

-- no more than items
pub items_step : (count n all : ℕ) (left : List PlanItem) → 1 ≤ length left → n ≤ 1 → count + length left ≤ all
    → count + n + length (take (length left - 1) (drop 1 left)) ≤ all
items_step count n all [] h few room = absurd (omega (arith, h))
items_step count n all (i ∷ items) h few room =
    let same : length (take (length (i ∷ items) - 1) items) ≡ length items = ap length (rest_is i items) in
    omega (arith, same, few, room)

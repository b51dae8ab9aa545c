-- A loop over the items of a schedule.
use Rattle.std.proofs.Common.{◌≡◌, ◌∙◌, ℕ, ◌+◌, ◌-◌, ◌≤◌, if◌then◌else◌, List, [], ◌∷◌, length, get_or, take, drop, take_all, le_refl, ap, arith}
use Rattle.ppm_following.specs.OrderedFaults.{fails, ordered_faults}
use Rattle.ppm_plan.specs.declared.schedule_item.ScheduleItem.{ScheduleItem}

-- what is left after the first item
rest_is : (i : ScheduleItem) (items : List ScheduleItem) → take (length (i ∷ items) - 1) items ≡ items
rest_is i items =
    let one : length (i ∷ items) - 1 ≡ length items = omega arith in
    ap (λ k. take k items) one ∙ take_all (length items) items (le_refl (length items))

-- an item more, by the first one and those after it
pub faults_step : (count n all : ℕ) (left : List ScheduleItem) (d : ScheduleItem) → 1 ≤ length left
    → n ≡ (if fails (get_or left 0 d).act then 1 else 0) → count + ordered_faults left ≡ all
    → count + n + ordered_faults (take (length left - 1) (drop 1 left)) ≡ all
faults_step count n all [] d h e whole = absurd (omega (arith, h))
faults_step count n all (i ∷ items) d h e whole =
    ap (λ l. count + n + ordered_faults l) (rest_is i items) ∙ omega (arith, e, whole)

-- no more than items
pub items_step : (count n all : ℕ) (left : List ScheduleItem) → 1 ≤ length left → n ≤ 1 → count + length left ≤ all
    → count + n + length (take (length left - 1) (drop 1 left)) ≤ all
items_step count n all [] h few room = absurd (omega (arith, h))
items_step count n all (i ∷ items) h few room =
    let same : length (take (length (i ∷ items) - 1) items) ≡ length items = ap length (rest_is i items) in
    omega (arith, same, few, room)

-- How many acts items stand for.
use Rattle.std.proofs.Common.{◌≡◌, ◌∙◌, ℕ, ◌+◌, ◌-◌, ◌*◌, ◌<◌, ◌≤◌, ◌^◌, List, [], ◌∷◌, length, get_or, take, drop, take_all, le_refl, ap, arith}
use Rattle.std.proofs.Math.ListN.{replicate}
use Rattle.std.proofs.lemmas.List.{length-append, length-replicate}
use Rattle.ppm_plan.specs.declared.schedule_item.ScheduleItem.{ScheduleItem}
use Rattle.ppm_plan.specs.Faults.{acts_of}

-- an item and those after it
acts_more : (i : ScheduleItem) (items : List ScheduleItem) → length (acts_of (i ∷ items)) ≡ i.times + length (acts_of items)
acts_more i items =
    length-append (replicate i.times i.act) (acts_of items) ∙ ap (λ n. n + length (acts_of items)) (length-replicate i.times i.act)

-- a loop over items, by the first and those after it
pub acts_step : (count n all : ℕ) (left : List ScheduleItem) (d : ScheduleItem) → 1 ≤ length left → n ≡ (get_or left 0 d).times
    → count + length (acts_of left) ≡ all → count + n + length (acts_of (take (length left - 1) (drop 1 left))) ≡ all
acts_step count n all [] d h e whole = absurd (omega (arith, h))
acts_step count n all (i ∷ items) d h e whole =
    let one : length (i ∷ items) - 1 ≡ length items = omega arith in
    let rest : take (length (i ∷ items) - 1) items ≡ items = ap (λ k. take k items) one ∙ take_all (length items) items (le_refl (length items)) in
    let more = acts_more i items in
    ap (λ l. count + n + length (acts_of l)) rest ∙ omega (arith, e, more, whole)

-- and the room that is left for them
pub left_step : (count n : ℕ) (left : List ScheduleItem) → 1 ≤ length left → n < 2 ^ 32 → count + 2 ^ 32 * length left ≤ 2 ^ 32 * 4096
    → count + n + 2 ^ 32 * length (take (length left - 1) (drop 1 left)) ≤ 2 ^ 32 * 4096
left_step count n [] h small room = absurd (omega (arith, h))
left_step count n (i ∷ items) h small room =
    let one : length (i ∷ items) - 1 ≡ length items = omega arith in
    let rest : take (length (i ∷ items) - 1) items ≡ items = ap (λ k. take k items) one ∙ take_all (length items) items (le_refl (length items)) in
    let same : length (take (length (i ∷ items) - 1) items) ≡ length items = ap length rest in
    omega (arith, same, small, room)

-- What is known of seats after a drive.
use Rattle.std.specs.Prelude.{◌≡◌, ◌<◌, ℕ, true, List, length, slice_index_or}
use Rattle.ppm_plan.specs.declared.plan_item.PlanItem.{PlanItem}
use Rattle.ppm_plan.specs.Forms.{plan_form}
use Rattle.ppm_plan.specs.Refusals.{IsKeeper}
use Rattle.ppm_locked.specs.Held.{Seated}

-- the seat of the plan's keeper, among the seats before and after a drive, has found the run ended
abbrev pub KeeperHasEnded : List PlanItem → (before now : List Seated) → Type 0
KeeperHasEnded items before now =
    (number : ℕ) (d : Seated) → number < length before → IsKeeper plan_form items (slice_index_or before number d).processor
    → (slice_index_or now number d).has_ended ≡ true

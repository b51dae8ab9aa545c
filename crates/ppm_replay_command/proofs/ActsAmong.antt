-- The acts of a schedule that is accepted are of its processors.
use Rattle.std.proofs.Common.{◌≡◌, ℕ, ◌+◌, Bool, true, false, cond, List, [], ◌∷◌, Some, None, refl, sym}
use Rattle.std.specs.List.{AllByRecursion}
use Rattle.std.proofs.lemmas.Option.{none-some}
use Rattle.ppm_plan.specs.Forms.{schedule_form, act_outside}
use Rattle.ppm_plan.specs.Refusals.{first_at}
use Rattle.ppm_plan.specs.Schedules.{IsActAmong}
use Rattle.ppm_plan.specs.declared.schedule_item.ScheduleItem.{ScheduleItem}
use Rattle.ppm_plan.proofs.AmongLemmas.{act_among}

module _ (p : ℕ) where
  -- where no item is outside, all acts are among these processors
  pub acts_among : (n : ℕ) (items : List ScheduleItem) → first_at (schedule_form.is_outside p) n items ≡ None
      → AllByRecursion (λ (i : ScheduleItem). IsActAmong p i.act) items
  acts_among n [] h = tt
  acts_among n (i ∷ items) h = go (act_outside p i.act) refl h (acts_among (n + 1) items)
    where
      go : (b : Bool) → act_outside p i.act ≡ b → cond b (Some n) (first_at (schedule_form.is_outside p) (n + 1) items) ≡ None
          → (first_at (schedule_form.is_outside p) (n + 1) items ≡ None → AllByRecursion (λ (i : ScheduleItem). IsActAmong p i.act) items)
          → AllByRecursion (λ (i : ScheduleItem). IsActAmong p i.act) (i ∷ items)
      go true e k more = absurd (none-some n (sym k))
      go false e k more = (act_among p i.act e, more k)

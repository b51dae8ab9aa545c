-- A text has an answer with each schedule, if it has one by the items of each that is accepted.
use Rattle.std.proofs.Common.{◌⊎◌, ℕ, List, inl, inr, refl}
use Rattle.ppm_case.specs.Rules.{case_limit}
use Rattle.ppm_plan.specs.Correct.{HaveOneAnswer as PlansHaveOneAnswer, SomeAccepted, SomeRefused}
use Rattle.ppm_plan.specs.Forms.{schedule_form}
use Rattle.ppm_plan.specs.Refusals.{IsAccepted, number_of}
use Rattle.ppm_plan.specs.declared.schedule_item.ScheduleItem.{ScheduleItem}
use Rattle.ppm_answers.specs.declared.answer.Answer.{Answer}
use Rattle.ppm_answers.specs.declared.answer.Answer.TheVariants as answers
use Rattle.ppm_loading.specs.Planned.{PlannedHas}
use Rattle.ppm_loading.proofs.PlannedLemmas.{lifted}

-- Where a text has an answer by the items of each schedule that is accepted, it has one with each schedule: that it is refused, or the answer by its
-- items.
module _ (Has : List ScheduleItem → List ℕ → Answer → Type 0)
    (plain : (items : List ScheduleItem) (text : List ℕ) (number : ℕ) → ¬ Has items text (answers.PlanRefused number)) where
  pub some_scheduled : PlansHaveOneAnswer → (schedule : List ℕ) (processors : ℕ) (text : List ℕ)
      → ((items : List ScheduleItem) → IsAccepted schedule_form schedule processors items → (a : Answer) × Has items text a)
      → (a : Answer) × PlannedHas schedule_form schedule processors Has text a
  some_scheduled plans schedule processors text some = go (plans.schedules.some schedule processors)
    where
      go : SomeAccepted schedule_form schedule processors ⊎ SomeRefused schedule_form schedule processors
          → (a : Answer) × PlannedHas schedule_form schedule processors Has text a
      go (inl h) =
          let a = some h.items h.accepted in (
            a.0,
            lifted schedule_form schedule processors Has case_limit plain text a.0 (record { items = h.items; accepted = h.accepted; has = a.1 }),
          )
      go (inr h) = (
        answers.PlanRefused (number_of h.error),
        record { error = h.error; of_text = h.of_text; refused = h.refused; number_is = refl },
      )

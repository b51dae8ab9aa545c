-- Acts that need no choice.
use Rattle.std.proofs.Common.{◌≡◌, ◌∙◌, ◌⊎◌, inl, inr, ◌≤◌, ◌<◌, ℕ, ◌+◌, ◌-◌, ◌^◌, ◌&&◌, min, Bool, true, false, if◌then◌else◌, List, Option, Some, None, IsSome, is_some, arith, refl, sym, ap, subst}
use Rattle.std.proofs.lemmas.Bool.{cases_lt, le-ltb, lt-leb}
use Rattle.ppm_plan.specs.declared.fault.Fault.{Fault}
use Rattle.ppm_plan.specs.declared.plan_item.PlanItem.{PlanItem}
use Rattle.ppm_plan.specs.Faults.{fault_at, IsLeastFrom}
use Rattle.ppm_plan.specs.Schedules.{Planned}
use Rattle.ppm_step.specs.declared.turn.Act.TheVariants.{Step, Quit}
use Rattle.ppm_step.specs.declared.turn.Why.TheVariants.{Turns}
use Rattle.ppm_step.specs.Standings.{Standing}
use Rattle.ppm_step.specs.State.{next_of, seeks_holder, is_work_next}
use Rattle.ppm_choice.specs.declared.limits.Limits.{Limits}
use Rattle.ppm_choice.specs.declared.pace.Pace.{Pace}
use Rattle.ppm_choice.specs.Obeying.{Past, fault_of, faulted, next_victim, next_step, next_unless_faulted, next_act}
use Rattle.ppm_choice.specs.Paces.{IsPace, AreClear, at_most}

module _ (items : List PlanItem) (processor : ℕ) where
  -- past all turns
  past_all : (act : ℕ) → 2 ^ 32 ≤ act → fault_of items processor act ≡ None
  past_all act h = ap (λ b. if b then fault_at items processor act else None) (le-ltb act (2 ^ 32) h)

  -- after acts that are kept up to 2^32
  faults_kept : (n a k : ℕ) → a ≡ min n (2 ^ 32) → fault_of items processor (n + k) ≡ fault_of items processor (a + k)
  faults_kept n a k e = go (cases_lt a (2 ^ 32))
    where
      go : (a < 2 ^ 32) ⊎ (2 ^ 32 ≤ a) → fault_of items processor (n + k) ≡ fault_of items processor (a + k)
      go (inl less) = ap (λ m. fault_of items processor (m + k)) (omega (arith, e, less))
      go (inr more) = past_all (n + k) (omega (arith, e, more)) ∙ sym (past_all (a + k) (omega (arith, more)))

module _ (plan : Planned) (limits : Limits) (past : Past) (stood : Standing) (pace : Pace) (p : IsPace plan limits past stood pace) where
  abbrev pub c : ℕ
  c = pace.processor

  abbrev pub fault_ahead : ℕ → Option Fault
  fault_ahead k = fault_of plan.items c (pace.acts + k)

  kept : (k : ℕ) → fault_of plan.items c (past.acts + k) ≡ fault_ahead k
  kept k = faults_kept plan.items c past.acts pace.acts k p.acts

  left_for : (k turns steps : ℕ) → pace.work ≡ min past.work turns → steps ≡ turns - pace.work → k < steps → past.work + k < turns
  left_for k turns steps w e l = omega (arith, w, e, l)

  -- up to the next fault, and as many as there are work turns left
  pub are_clear : (next : Option ℕ) (steps : ℕ) → IsLeastFrom fault_ahead 0 next → steps ≡ at_most next (limits.turns - pace.work)
      → AreClear plan limits c past steps
  are_clear None steps h e k l = (kept k ∙ h k (omega arith), left_for k limits.turns steps p.work e l)
  are_clear (Some next) steps h e k l = (
    kept k ∙ h.2 k (omega arith) (omega (arith, e, l)),
    left_for k limits.turns (limits.turns - pace.work) p.work refl (omega (arith, e, l)),
  )

  spent : (turns steps : ℕ) → pace.work ≡ min past.work turns → steps ≡ turns - pace.work → past.work + steps < turns → ⊥
  spent turns steps w e l = omega (arith, w, e, l)

  -- and no more
  pub are_most : (next : Option ℕ) (steps : ℕ) → IsLeastFrom fault_ahead 0 next → steps ≡ at_most next (limits.turns - pace.work)
      → (more : ℕ) → AreClear plan limits c past more → more ≤ steps
  are_most next steps h e more clear = go next h e (cases_lt steps more)
    where
      met : (next : ℕ) → IsSome (fault_ahead next) → fault_of plan.items c (past.acts + next) ≡ None → ⊥
      met next some none = cc (sym (ap is_some (sym (kept next) ∙ none)) ∙ some)

      go : (next : Option ℕ) → IsLeastFrom fault_ahead 0 next → steps ≡ at_most next (limits.turns - pace.work)
          → (steps < more) ⊎ (more ≤ steps) → more ≤ steps
      go next h e (inr l) = l
      go None h e (inl l) = absurd (spent limits.turns steps p.work e (clear steps l).1)
      go (Some next) h e (inl l) =
          let turns_left = (clear steps l).1 in
          let same : steps ≡ next = omega (arith, e, p.work, turns_left) in
          absurd (met next h.1 (subst (λ k. fault_of plan.items c (past.acts + k) ≡ None) same (clear steps l).0))

-- where the plan has no fault, work turns are left and no victim is due, the next act is a step
pub next_is_step : (plan : Planned) (limits : Limits) (processor : ℕ) (past : Past) (stood : Standing)
    → fault_of plan.items processor past.acts ≡ None → past.work < limits.turns → seeks_holder stood ≡ false
    → next_act plan limits processor past stood ≡ Step 0
next_is_step plan limits processor past stood none left no_victim =
    ap (λ fault. faulted fault (next_unless_faulted plan limits processor past stood)) none
    ∙ ap (λ b. if is_work_next (next_of stood) && b then Quit Turns else next_step plan limits processor past stood)
    (lt-leb limits.turns past.work left)
    ∙ goes_on (is_work_next (next_of stood))
    ∙ ap (λ b. Step (if b then next_victim plan limits processor past else 0)) no_victim
  where
    goes_on : (b : Bool) → (if b && false then Quit Turns else next_step plan limits processor past stood)
        ≡ next_step plan limits processor past stood
    goes_on true = refl
    goes_on false = refl

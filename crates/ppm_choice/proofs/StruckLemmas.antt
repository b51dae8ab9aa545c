-- A keeper that obeys meets no hard fault, and acts until it is done.
use Rattle.std.proofs.Common.{◌≡◌, ◌∙◌, ◌⊎◌, ◌&&◌, ◌||◌, ◌==◌, ℕ, ◌^◌, Bool, true, false, nat_lt, nat_le, if◌then◌else◌, List, [], ◌∷◌, ◌++◌, Option, Some, None, inl, inr, refl, sym}
use Rattle.std.specs.List.{list_any}
use Rattle.std.proofs.lemmas.Bool.{or_cases}
use Rattle.ppm_plan.specs.declared.fault.Fault.{Fault}
use Rattle.ppm_plan.specs.declared.fault.Fault.TheVariants as faults
use Rattle.ppm_plan.specs.declared.plan_item.PlanItem.{PlanItem}
use Rattle.ppm_plan.specs.Faults.{is_at, is_hard_at}
use Rattle.ppm_plan.specs.Forms.{plan_form, is_hard}
use Rattle.ppm_plan.specs.Refusals.{IsKeeper, is_killed}
use Rattle.ppm_plan.specs.Schedules.{Planned}
use Rattle.ppm_step.specs.declared.turn.Act.TheVariants.{Hard, Quit}
use Rattle.ppm_step.specs.declared.turn.Why.TheVariants.{Turns}
use Rattle.ppm_step.specs.Standings.{Standing, IsDone}
use Rattle.ppm_step.specs.State.{next_of, is_work_next}
use Rattle.ppm_choice.specs.declared.limits.Limits.{Limits}
use Rattle.ppm_choice.specs.Deeds.{Deed}
use Rattle.ppm_choice.specs.Obeying.{Past, Obeys, fault_of, faulted, behind, awake, next_act, next_step}

-- an item that is a hard fault of a turn kills its processor
item_kills : (c turn : ℕ) (item : PlanItem) → is_hard_at c turn item ≡ true → plan_form.kills c item ≡ true
item_kills c turn item e = go (item.processor == c) (item.turn == turn) (is_hard item.fault) e
  where
    go : (a b h : Bool) → (a && b && h) ≡ true → (h && a) ≡ true
    go true true true e = refl
    go true true false e = cc
    go true false h e = cc
    go false b h e = cc

or_first : (a b : Bool) → a ≡ true → (a || b) ≡ true
or_first true b e = refl
or_first false b e = cc

or_second : (a b : Bool) → b ≡ true → (a || b) ≡ true
or_second true b e = refl
or_second false b e = e

any_kills : (c turn : ℕ) (items : List PlanItem) → list_any (is_hard_at c turn) items ≡ true → is_killed plan_form c items ≡ true
any_kills c turn [] e = e
any_kills c turn (item ∷ items) e =
    go (or_cases (is_hard_at c turn item) (list_any (is_hard_at c turn) items) e) (any_kills c turn items)
  where
    go : (is_hard_at c turn item ≡ true) ⊎ (list_any (is_hard_at c turn) items ≡ true)
        → (list_any (is_hard_at c turn) items ≡ true → is_killed plan_form c items ≡ true) → is_killed plan_form c (item ∷ items) ≡ true
    go (inl is) rest = or_first (plan_form.kills c item) (is_killed plan_form c items) (item_kills c turn item is)
    go (inr is) rest = or_second (plan_form.kills c item) (is_killed plan_form c items) (rest is)

-- a hard fault of an act is one that the plan has, so it kills
fault_kills : (items : List PlanItem) (c act : ℕ) → fault_of items c act ≡ Some faults.Hard → is_killed plan_form c items ≡ true
fault_kills items c act e = go (nat_lt act (2 ^ 32)) (list_any (is_hard_at c act) items) (list_any (is_at c act) items) refl e
  where
    go : (less hard soft : Bool) → list_any (is_hard_at c act) items ≡ hard
        → (if less then (if hard then Some faults.Hard else (if soft then Some faults.Soft else None)) else None) ≡ Some faults.Hard
        → is_killed plan_form c items ≡ true
    go true true soft is k = any_kills c act items is
    go true false true is k = cc
    go true false false is k = cc
    go false hard soft is k = cc

module _ (plan : Planned) (limits : Limits) (c : ℕ) where
  hard_kills : (past : Past) (stood : Standing) → Hard ≡ next_act plan limits c past stood → is_killed plan_form c plan.items ≡ true
  hard_kills past stood e =
      go (fault_of plan.items c past.acts) (is_work_next (next_of stood) && nat_le limits.turns past.work) refl e
    where
      go : (f : Option Fault) (work : Bool) → fault_of plan.items c past.acts ≡ f
          → Hard ≡ faulted f (if work then Quit Turns else next_step plan limits c past stood) → is_killed plan_form c plan.items ≡ true
      go None true is k = cc
      go None false is k = cc
      go (Some faults.Soft) work is k = cc
      go (Some faults.Hard) work is k = fault_kills plan.items c past.acts is

  -- a hard fault among its acts is one that the plan has, so it is killed
  pub struck_is_killed : (past : Past) (first : List Deed) (hit : Deed) (more : List Deed) (stands : Standing) → hit.act ≡ Hard
      → Obeys plan limits c past (first ++ (hit ∷ more)) stands → is_killed plan_form c plan.items ≡ true
  struck_is_killed past [] hit more stands is obeys = hard_kills past hit.stood (sym is ∙ obeys.1)
  struck_is_killed past (deed ∷ first) hit more stands is obeys =
      struck_is_killed (behind (awake plan limits c past deed.stood) deed) first hit more stands is obeys.2

  -- where its acts stop, the keeper is done
  pub done_at_end : (past : Past) (deeds : List Deed) (stands : Standing) → IsKeeper plan_form plan.items c
      → Obeys plan limits c past deeds stands → stands ≡ IsDone
  done_at_end past [] stands keeper (inl done) = done
  done_at_end past [] stands keeper (inr rests) = absurd (rests.1.no_keeper keeper)
  done_at_end past (deed ∷ deeds) stands keeper obeys =
      done_at_end (behind (awake plan limits c past deed.stood) deed) deeds stands keeper obeys.2

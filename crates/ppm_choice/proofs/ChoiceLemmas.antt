-- What is chosen by a pace is the next act of its past.
use Rattle.std.proofs.Common.{◌≡◌, ◌≤◌, ◌<◌, ℕ, ◌^◌, ◌&&◌, min, not, nat_le, Bool, true, false, if◌then◌else◌, List, Option, Some, None, arith, refl, sym, ◌∙◌, ap, ◌⊎◌, inl, inr}
use Rattle.std.proofs.lemmas.Bool.{cases_Bool, cases_lt, iff_false, leb-true, le-leb, le-ltb}
use Rattle.ppm_plan.specs.declared.fault.Fault.{Fault}
use Rattle.ppm_plan.specs.declared.fault.Fault.TheVariants as faults
use Rattle.ppm_plan.specs.declared.plan_item.PlanItem.{PlanItem}
use Rattle.ppm_plan.specs.Faults.{fault_at}
use Rattle.ppm_plan.specs.Schedules.{Planned}
use Rattle.ppm_step.specs.declared.turn.Act.TheVariants.{Step, Quit}
use Rattle.ppm_step.specs.declared.turn.Next.{Next}
use Rattle.ppm_step.specs.declared.turn.Next.TheVariants.{Work, Look, Seek, Done}
use Rattle.ppm_step.specs.declared.turn.Why.TheVariants.{Turns}
use Rattle.ppm_step.specs.Standings.{Standing}
use Rattle.ppm_step.specs.State.{next_of, seeks_holder, is_work_next}
use Rattle.ppm_choice.specs.declared.choosing.Choice.TheVariants.{Do, Draw, Leave}
use Rattle.ppm_choice.specs.declared.limits.Limits.{Limits}
use Rattle.ppm_choice.specs.declared.pace.Pace.{Pace}
use Rattle.ppm_choice.specs.Obeying.{Past, fault_of, faulted, next_victim, next_step, next_unless_faulted, next_act, Rests}
use Rattle.ppm_choice.specs.Paces.{IsPace, IsChoice, is_seek, unfaulted, by_fault, chosen}

-- three tests
all_hold : (a k l : Bool) → (a && not k && l) ≡ true → (a ≡ true) × (k ≡ false) × (l ≡ true)
all_hold true false true e = (refl, refl, refl)
all_hold true false false e = cc
all_hold true true l e = cc
all_hold false k l e = cc

not_all : (a k l : Bool) → (a && not k && l) ≡ false → a ≡ true → k ≡ false → l ≡ true → ⊥
not_all true false true e p q r = cc
not_all true false false e p q r = cc
not_all true true l e p q r = cc
not_all false k l e p q r = cc

seek_is : (next : Next) → is_seek next ≡ true → next ≡ Seek
seek_is Work e = cc
seek_is Look e = cc
seek_is Seek e = refl
seek_is Done e = cc

-- numbers that are kept up to a most
most_is_reached : (n most a : ℕ) → a ≡ min n most → most ≤ a → most ≤ n
most_is_reached n most a e h = omega (arith, e, h)

is_kept : (n most a : ℕ) → a ≡ min n most → most ≤ n → most ≤ a
is_kept n most a e h = omega (arith, e, h)

below_most : (n most a : ℕ) → a ≡ min n most → a < most → a ≡ n
below_most n most a e h = omega (arith, e, h)

most_shows : (n most a : ℕ) → a ≡ min n most → nat_le most a ≡ nat_le most n
most_shows n most a e = go (cases_lt n most)
  where
    go : (n < most) ⊎ (most ≤ n) → nat_le most a ≡ nat_le most n
    go (inl less) = ap (nat_le most) (omega (arith, e, less))
    go (inr more) = le-leb most a (is_kept n most a e more) ∙ sym (le-leb most n more)

-- the fault of an act that is kept
fault_is : (items : List PlanItem) (processor n a : ℕ) → a ≡ min n (2 ^ 32) → fault_of items processor a ≡ fault_of items processor n
fault_is items processor n a e = go (cases_lt a (2 ^ 32))
  where
    go : (a < 2 ^ 32) ⊎ (2 ^ 32 ≤ a) → fault_of items processor a ≡ fault_of items processor n
    go (inl less) = ap (fault_of items processor) (below_most n (2 ^ 32) a e less)
    go (inr more) =
        ap (λ b. if b then fault_at items processor a else None) (le-ltb a (2 ^ 32) more)
        ∙ sym (ap (λ b. if b then fault_at items processor n else None) (le-ltb n (2 ^ 32) (most_is_reached n (2 ^ 32) a e more)))

module _ (plan : Planned) (limits : Limits) (past : Past) (stood : Standing) (pace : Pace) (p : IsPace plan limits past stood pace) where
  abbrev pub c : ℕ
  c = pace.processor

  -- where no fault is met
  step_is : (w d : Bool) → w ≡ (is_work_next (next_of stood) && nat_le limits.turns past.work) → d ≡ seeks_holder stood
      → next_act plan limits c past stood ≡ next_unless_faulted plan limits c past stood
      → ¬ Rests plan limits c past stood
      → IsChoice plan limits c past stood (if w then Do (Quit Turns) else (if d then Draw else Do (Step 0)))
  step_is true d ew ed en stays = (stays, en ∙ ap (λ b. if b then Quit Turns else next_step plan limits c past stood) (sym ew), refl)
  step_is false true ew ed en stays = (
    stays,
    en
        ∙ ap (λ b. if b then Quit Turns else next_step plan limits c past stood) (sym ew)
        ∙ ap (λ b. Step (if b then next_victim plan limits c past else 0)) (sym ed),
    sym ed,
  )
  step_is false false ew ed en stays = (
    stays,
    en
        ∙ ap (λ b. if b then Quit Turns else next_step plan limits c past stood) (sym ew)
        ∙ ap (λ b. Step (if b then next_victim plan limits c past else 0)) (sym ed),
    sym ed,
  )

  unfaulted_is : next_act plan limits c past stood ≡ next_unless_faulted plan limits c past stood
      → ¬ Rests plan limits c past stood → IsChoice plan limits c past stood (unfaulted limits pace)
  unfaulted_is en stays =
      step_is (is_work_next pace.next && nat_le limits.turns pace.work) pace.due
      (ap (λ n. is_work_next n && nat_le limits.turns pace.work) p.next ∙ ap (λ b. is_work_next (next_of stood) && b) (most_shows past.work limits.turns pace.work p.work))
      p.due en stays

  -- a fault comes first
  act_is : (f : Option Fault) → f ≡ fault_of plan.items c past.acts → ¬ Rests plan limits c past stood
      → IsChoice plan limits c past stood (by_fault f (unfaulted limits pace))
  act_is None e stays = unfaulted_is (ap (λ f. faulted f (next_unless_faulted plan limits c past stood)) (sym e)) stays
  act_is (Some faults.Soft) e stays = (stays, ap (λ f. faulted f (next_unless_faulted plan limits c past stood)) (sym e), refl)
  act_is (Some faults.Hard) e stays = (stays, ap (λ f. faulted f (next_unless_faulted plan limits c past stood)) (sym e), refl)

  -- it rests exactly where the tests say so
  rests : (is_seek pace.next && not pace.keeper && nat_le limits.looks pace.looks) ≡ true → Rests plan limits c past stood
  rests e =
      let all = all_hold (is_seek pace.next) pace.keeper (nat_le limits.looks pace.looks) e in record {
        no_keeper = iff_false p.keeper all.1;
        seeks = sym p.next ∙ seek_is pace.next all.0;
        looked = most_is_reached past.looks limits.looks pace.looks p.looks (leb-true limits.looks pace.looks all.2);
      }

  no_rest : (is_seek pace.next && not pace.keeper && nat_le limits.looks pace.looks) ≡ false → ¬ Rests plan limits c past stood
  no_rest e r =
      not_all (is_seek pace.next) pace.keeper (nat_le limits.looks pace.looks) e (ap is_seek (p.next ∙ r.seeks))
      (go (cases_Bool pace.keeper)) (le-leb limits.looks pace.looks (is_kept past.looks limits.looks pace.looks p.looks r.looked))
    where
      go : (pace.keeper ≡ true) ⊎ (pace.keeper ≡ false) → pace.keeper ≡ false
      go (inl yes_it_is) = absurd (r.no_keeper (p.keeper.0 yes_it_is))
      go (inr it_is_not) = it_is_not

  -- what is chosen
  pub choice_is : IsChoice plan limits c past stood (chosen plan limits pace)
  choice_is = go (is_seek pace.next && not pace.keeper && nat_le limits.looks pace.looks) refl
    where
      go : (b : Bool) → (is_seek pace.next && not pace.keeper && nat_le limits.looks pace.looks) ≡ b
          → IsChoice plan limits c past stood
          (if b then Leave else by_fault (fault_of plan.items c pace.acts) (unfaulted limits pace))
      go true e = rests e
      go false e = act_is (fault_of plan.items c pace.acts) (fault_is plan.items c past.acts pace.acts p.acts) (no_rest e)

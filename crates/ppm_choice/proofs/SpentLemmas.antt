-- A processor that obeys quits only where its work turns are spent, and makes no more.
use Rattle.std.proofs.Common.{◌≡◌, ◌∙◌, ◌≤◌, ◌&&◌, ◌+◌, ℕ, Bool, true, false, nat_le, if◌then◌else◌, List, [], ◌∷◌, ◌++◌, Option, Some, None, refl, sym, ap, subst, arith}
use Rattle.std.proofs.lemmas.Bool.{leb-true, leb-false}
use Rattle.ppm_plan.specs.declared.fault.Fault.{Fault}
use Rattle.ppm_plan.specs.declared.fault.Fault.TheVariants as faults
use Rattle.ppm_plan.specs.Schedules.{Planned}
use Rattle.ppm_step.specs.declared.turn.Act.TheVariants.{Step, Quit}
use Rattle.ppm_step.specs.declared.turn.Why.{Why}
use Rattle.ppm_step.specs.declared.turn.Why.TheVariants.{Turns}
use Rattle.ppm_step.specs.Standings.{Standing}
use Rattle.ppm_step.specs.State.{next_of, is_work_next}
use Rattle.ppm_choice.specs.declared.limits.Limits.{Limits}
use Rattle.ppm_choice.specs.Deeds.{Deed}
use Rattle.ppm_choice.specs.Obeying.{Past, Obeys, is_step, is_work_deed, fault_of, faulted, behind, awake}
use Rattle.ppm_choice.proofs.DeedLemmas.{count_work}
use Rattle.ppm_choice.proofs.ParkLemmas.{awake_work}

-- one more, or none
one_or_none : (work : Bool) (n : ℕ) → (if work then n + 1 else n) ≡ n + (if work then 1 else 0)
one_or_none true n = refl
one_or_none false n = omega arith

-- an act passes no limit on work turns
within_by : (f : Option Fault) (work full : Bool) (n most victim : ℕ) → nat_le most n ≡ full → n ≤ most
    → (if is_step (faulted f (if work && full then Quit Turns else Step victim)) && work then n + 1 else n) ≤ most
within_by None true true n most victim is h = h
within_by None true false n most victim is h = omega (arith, leb-false most n is)
within_by None false full n most victim is h = h
within_by (Some faults.Soft) work full n most victim is h = h
within_by (Some faults.Hard) work full n most victim is h = h

-- and a quit comes where it is reached
reached_by : (f : Option Fault) (work full : Bool) (n most victim : ℕ) (why : Why) → nat_le most n ≡ full
    → Quit why ≡ faulted f (if work && full then Quit Turns else Step victim) → most ≤ n
reached_by None true true n most victim why is e = leb-true most n is
reached_by None true false n most victim why is e = cc
reached_by None false full n most victim why is e = cc
reached_by (Some faults.Soft) work full n most victim why is e = cc
reached_by (Some faults.Hard) work full n most victim why is e = cc

-- its turns are why
quits_by : (f : Option Fault) (work full : Bool) (victim : ℕ) (why : Why)
    → Quit why ≡ faulted f (if work && full then Quit Turns else Step victim) → why ≡ Turns
quits_by None true true victim why e = cc
quits_by None true false victim why e = cc
quits_by None false full victim why e = cc
quits_by (Some faults.Soft) work full victim why e = cc
quits_by (Some faults.Hard) work full victim why e = cc

module _ (plan : Planned) (limits : Limits) (c : ℕ) where
  abbrev past_behind : Past → Deed → Past
  past_behind past deed = behind (awake plan limits c past deed.stood) deed

  -- a rest before an act changes no count of work turns
  work_same : (past : Past) (deed : Deed) → (past_behind past deed).work ≡ (behind past deed).work
  work_same past deed = ap (λ n. if is_work_deed deed then n + 1 else n) (awake_work plan limits c past deed.stood)

  -- those of one act, and of those after it
  work_first : (past : Past) (deed : Deed) (deeds : List Deed) → past.work + count_work (deed ∷ deeds) ≡ (past_behind past deed).work + count_work deeds
  work_first past deed deeds = omega (arith, work_same past deed, one_or_none (is_work_deed deed) past.work)

  pub at_most : (past : Past) (deeds : List Deed) (stands : Standing) → Obeys plan limits c past deeds stands → past.work ≤ limits.turns
      → past.work + count_work deeds ≤ limits.turns
  at_most past [] stands obeys h = omega (arith, h)
  at_most past (deed ∷ deeds) stands obeys h =
      let least : (behind past deed).work ≤ limits.turns =
      subst (λ a. (behind past (record { stood = deed.stood; act = a })).work ≤ limits.turns) (sym obeys.1)
      (within_by (fault_of plan.items c past.acts) (is_work_next (next_of deed.stood)) (nat_le limits.turns past.work) past.work limits.turns _ refl h) in
      let few : (past_behind past deed).work ≤ limits.turns = omega (arith, least, work_same past deed) in
      let rest = at_most (past_behind past deed) deeds stands obeys.2 few in
      omega (arith, rest, work_first past deed deeds)

  pub spent : (past : Past) (first : List Deed) (quit : Deed) (more : List Deed) (why : Why) (stands : Standing) → quit.act ≡ Quit why
      → Obeys plan limits c past (first ++ (quit ∷ more)) stands → limits.turns ≤ past.work + count_work (first ++ (quit ∷ more))
  spent past [] quit more why stands is obeys =
      let full =
      reached_by (fault_of plan.items c past.acts) (is_work_next (next_of quit.stood)) (nat_le limits.turns past.work) past.work limits.turns _ why
      refl (sym is ∙ obeys.1) in
      omega (arith, full)
  spent past (deed ∷ first) quit more why stands is obeys =
      let rest = spent (past_behind past deed) first quit more why stands is obeys.2 in
      omega (arith, rest, work_first past deed (first ++ (quit ∷ more)))

  pub for_turns : (past : Past) (first : List Deed) (quit : Deed) (more : List Deed) (why : Why) (stands : Standing) → quit.act ≡ Quit why
      → Obeys plan limits c past (first ++ (quit ∷ more)) stands → why ≡ Turns
  for_turns past [] quit more why stands is obeys =
      quits_by (fault_of plan.items c past.acts) (is_work_next (next_of quit.stood)) (nat_le limits.turns past.work) _ why (sym is ∙ obeys.1)
  for_turns past (deed ∷ first) quit more why stands is obeys = for_turns (past_behind past deed) first quit more why stands is obeys.2

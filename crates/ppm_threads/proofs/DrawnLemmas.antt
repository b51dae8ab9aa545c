-- Acts that name processors.
use Rattle.std.proofs.Common.{◌≡◌, ◌∙◌, ◌<◌, ◌&&◌, nat_le, ℕ, Bool, true, false, if◌then◌else◌, Option, None, Some, refl, sym, subst}
use Rattle.ppm_cells.specs.declared.shape.Shape.{Shape}
use Rattle.ppm_plan.specs.declared.fault.Fault.{Fault}
use Rattle.ppm_plan.specs.declared.fault.Fault.TheVariants as faults
use Rattle.ppm_plan.specs.Schedules.{Planned}
use Rattle.ppm_step.specs.declared.turn.Act.TheVariants.{Step, Quit}
use Rattle.ppm_step.specs.declared.turn.Why.TheVariants.{Turns}
use Rattle.ppm_step.specs.Standings.{Standing}
use Rattle.ppm_step.specs.State.{next_of, seeks_holder, is_work_next}
use Rattle.ppm_choice.specs.declared.limits.Limits.{Limits}
use Rattle.ppm_choice.specs.Obeying.{Past, fault_of, faulted, next_victim, next_act}
use Rattle.ppm_choice.proofs.DrawnLemmas.{victim_below}
use Rattle.ppm_table.specs.Run.{IsActAt}

module _ (plan : Planned) (limits : Limits) (c : ℕ) (past : Past) (s : Shape) (stood : Standing) (same : plan.processors ≡ s.processors) (some : 0 < plan.processors) where
  act_at : (f : Option Fault) (work due : Bool) → seeks_holder stood ≡ due
      → IsActAt s stood (faulted f (if work then Quit Turns else Step (if due then next_victim plan limits c past else 0)))
  act_at None true due is = tt
  act_at None false true is =
      (subst (λ n. next_victim plan limits c past < n) same (victim_below plan limits c past some), λ none. absurd (let e : true ≡ false = sym is ∙ none in cc))
  act_at None false false is = (subst (λ n. 0 < n) same some, λ _. refl)
  act_at (Some faults.Soft) work due is = tt
  act_at (Some faults.Hard) work due is = tt

  -- the next act names a processor as its victim, and 0 where no victim is due
  pub is_act_at : IsActAt s stood (next_act plan limits c past stood)
  is_act_at = act_at (fault_of plan.items c past.acts) (is_work_next (next_of stood) && nat_le limits.turns past.work) (seeks_holder stood) refl

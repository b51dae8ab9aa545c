-- Victims, drawn one after the other.
use Rattle.std.proofs.Common.{◌≡◌, ◌∙◌, ◌<◌, ◌&&◌, nat_le, ℕ, zero, suc, ◌+◌, ◌%◌, Bool, true, false, if◌then◌else◌, Option, None, Some, List, [], ◌∷◌, map, drop, get_or, arith, sym, ap}
use Rattle.std.proofs.lemmas.Nat.{mod_below}
use Rattle.ppm_plan.specs.declared.fault.Fault.{Fault}
use Rattle.ppm_plan.specs.declared.fault.Fault.TheVariants as faults
use Rattle.ppm_plan.specs.Draws.{Drawing, victims_of, next_victims}
use Rattle.ppm_plan.specs.Schedules.{Planned}
use Rattle.ppm_step.specs.declared.turn.Act.TheVariants.{Step, Quit}
use Rattle.ppm_step.specs.declared.turn.Why.TheVariants.{Turns}
use Rattle.ppm_step.specs.Standings.{Standing}
use Rattle.ppm_step.specs.State.{next_of, seeks_holder, is_work_next}
use Rattle.ppm_step.specs.Among.{IsActAmong}
use Rattle.ppm_choice.specs.declared.limits.Limits.{Limits}
use Rattle.ppm_choice.specs.Deeds.{Deed}
use Rattle.ppm_choice.specs.Obeying.{Past, behind, draws, fault_of, faulted, next_victim, next_act}
use Rattle.ppm_choice.specs.Drawn.{HasDrawn}

-- what comes first after so many, and what comes after it
first_of_drop : (j : ℕ) (l rest : List ℕ) (v : ℕ) → drop j l ≡ v ∷ rest → get_or l j 0 ≡ v
first_of_drop zero [] rest v e = cc
first_of_drop zero (x ∷ l) rest v e = cc
first_of_drop (suc j) [] rest v e = cc
first_of_drop (suc j) (x ∷ l) rest v e = first_of_drop j l rest v e

rest_of_drop : (j : ℕ) (l rest : List ℕ) (v : ℕ) → drop j l ≡ v ∷ rest → drop (suc j) l ≡ rest
rest_of_drop zero [] rest v e = cc
rest_of_drop zero (x ∷ l) rest v e = cc
rest_of_drop (suc j) [] rest v e = cc
rest_of_drop (suc j) (x ∷ l) rest v e = rest_of_drop j l rest v e

-- victims are processors
all_below : (p : ℕ) → 0 < p → (words : List ℕ) (j : ℕ) → get_or (map (λ w. w % p) words) j 0 < p
all_below p some [] j = some
all_below p some (w ∷ words) zero = mod_below w p some
all_below p some (w ∷ words) (suc j) = all_below p some words j

module _ (plan : Planned) (limits : Limits) (c : ℕ) (past : Past) where
  pub victim_below : 0 < plan.processors → next_victim plan limits c past < plan.processors
  victim_below some = all_below plan.processors some _ past.drawn

  act_among : 0 < plan.processors → (f : Option Fault) (work due : Bool)
      → IsActAmong plan.processors (faulted f (if work then Quit Turns else Step (if due then next_victim plan limits c past else 0)))
  act_among some None true due = tt
  act_among some None false true = victim_below some
  act_among some None false false = some
  act_among some (Some faults.Soft) work due = tt
  act_among some (Some faults.Hard) work due = tt

  -- an act names processors alone
  pub is_among : (stood : Standing) → 0 < plan.processors → IsActAmong plan.processors (next_act plan limits c past stood)
  is_among stood some =
      act_among some (fault_of plan.items c past.acts) (is_work_next (next_of stood) && nat_le limits.turns past.work) (seeks_holder stood)

  -- the victim that is drawn is the next one
  pub drawn_is_next : (old new : Drawing) (v : ℕ) → ((k : ℕ) → next_victims old (suc k) ≡ v ∷ next_victims new k)
      → HasDrawn plan limits c past old → v ≡ next_victim plan limits c past
  drawn_is_next old new v draw has =
      sym (first_of_drop past.drawn (victims_of limits.seed c plan.processors (past.drawn + 1)) (next_victims new 0) v
      (sym (has 1) ∙ draw 0))

  one_more : (old new : Drawing) (v : ℕ) → ((k : ℕ) → next_victims old (suc k) ≡ v ∷ next_victims new k)
      → HasDrawn plan limits c past old → (k : ℕ) → next_victims new k ≡ drop (past.drawn + 1) (victims_of limits.seed c plan.processors (past.drawn + 1 + k))
  one_more old new v draw has k =
      let d = past.drawn in
      let next : suc d ≡ d + 1 = omega arith in
      let far : d + suc k ≡ d + 1 + k = omega arith in
      sym (rest_of_drop d (victims_of limits.seed c plan.processors (d + suc k)) (next_victims new k) v (sym (has (suc k)) ∙ draw k))
      ∙ ap (λ n. drop n (victims_of limits.seed c plan.processors (d + suc k))) next
      ∙ ap (λ n. drop (d + 1) (victims_of limits.seed c plan.processors n)) far

  -- after a step that draws
  pub has_drawn : (stood : Standing) (old new : Drawing) (v : ℕ) → seeks_holder stood ≡ true
      → ((k : ℕ) → next_victims old (suc k) ≡ v ∷ next_victims new k) → HasDrawn plan limits c past old
      → HasDrawn plan limits c (behind past (record { stood = stood; act = Step v })) new
  has_drawn stood old new v due draw has k =
      one_more old new v draw has k
      ∙ ap (λ b. drop (if b then past.drawn + 1 else past.drawn)
      (victims_of limits.seed c plan.processors ((if b then past.drawn + 1 else past.drawn) + k))) (sym due)

  -- after an act that draws none
  pub draws_none : (deed : Deed) (victims : Drawing) → draws deed ≡ false → HasDrawn plan limits c past victims
      → HasDrawn plan limits c (behind past deed) victims
  draws_none deed victims none has k =
      has k
      ∙ ap (λ b. drop (if b then past.drawn + 1 else past.drawn)
      (victims_of limits.seed c plan.processors ((if b then past.drawn + 1 else past.drawn) + k))) (sym none)

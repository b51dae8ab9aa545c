-- Which victims come next of those that a processor draws, and which act with them.
use Rattle.std.specs.Prelude.{◌≡◌, ℕ, ◌+◌, Bool, true, false, drop, Option, Some, None}
use Rattle.ppm_plan.specs.Draws.{Drawing, victims_of, next_victims}
use Rattle.ppm_plan.specs.Schedules.{Planned}
use Rattle.ppm_step.specs.declared.turn.Act.{Act}
use Rattle.ppm_step.specs.declared.turn.Next.{Next}
use Rattle.ppm_step.specs.declared.turn.Next.TheVariants.{Work, Look, Seek, Done}
use Rattle.ppm_step.specs.Standings.{Standing}
use Rattle.ppm_choice.specs.declared.limits.Limits.{Limits}
use Rattle.ppm_choice.specs.Obeying.{Past, next_act, behind, Rests}

-- whether no step is to come
abbrev pub is_over : Next → Bool
is_over Work = false
is_over Look = false
is_over Seek = false
is_over Done = true

module _ (plan : Planned) (limits : Limits) where
  -- the victims that are drawn next come after those that were drawn
  abbrev pub HasDrawn : (processor : ℕ) → Past → Drawing → Type 0
  HasDrawn processor past victims =
      (k : ℕ) → next_victims victims k ≡ drop past.drawn (victims_of limits.seed processor plan.processors (past.drawn + k))

  -- none where the processor rests, and no victim is drawn; else its next act, after which so many are drawn
  abbrev pub IsNext : (processor : ℕ) → Past → Standing → Drawing → Option Act → Type 0
  IsNext processor past stood victims None = Rests plan limits processor past stood × HasDrawn processor past victims
  IsNext processor past stood victims (Some act) =
      (¬ Rests plan limits processor past stood)
      × (act ≡ next_act plan limits processor past stood)
      × HasDrawn processor (behind past (record { stood = stood; act = act })) victims

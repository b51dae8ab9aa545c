-- No turn of a run is of a processor that is done.
use Rattle.std.proofs.Common.{◌≡◌, ◌≢◌, refl, sym, ap, ◌∙◌, arith, ℕ, Bool, true, false, List}
use Rattle.ppm_cells.specs.declared.shape.Shape.{Shape}
use Rattle.ppm_code.specs.declared.code.CodeParts.{CodeParts}
use Rattle.ppm_plan.specs.declared.schedule_item.ScheduleItem.{ScheduleItem}
use Rattle.ppm_plan.specs.declared.schedule_item.ScheduledAct.{ScheduledAct}
use Rattle.ppm_plan.specs.declared.schedule_item.ScheduledAct.TheVariants as scheduled
use Rattle.ppm_step.specs.declared.turn.Turn.{Turn}
use Rattle.ppm_step.specs.Standings.{IsDone}
use Rattle.ppm_step.specs.State.{State, stand_of, after}
use Rattle.ppm_step.specs.State.{is_done_at}
use Rattle.ppm_choice.specs.Course.{Course, act_of, processor_of, turn_of, behind_all}
use Rattle.ppm_choice.specs.Schedules.{dues_of, beginning}
use Rattle.ppm_choice.specs.ScheduleLaws.{MakesNoMore, SkipsDone}
use Rattle.ppm_choice.proofs.MadeLemmas.{state_at, left_at, Splits, splits}

-- the processor of a turn is that of its act
pub of_act : (processors : ℕ) (w : Course) (act : ScheduledAct) → (turn_of processors w act).processor ≡ processor_of act
of_act processors w (scheduled.Step processor stated) = refl
of_act processors w (scheduled.Fails processor fault) = refl

both_ways : (b : Bool) → b ≡ true → b ≡ false → ⊥
both_ways b yes_ no_ = cc

module _ (s : Shape) (code : CodeParts) where
  pub makes_no_more : MakesNoMore s code
  makes_no_more state items turns = omega (arith, left_at s code (beginning state turns) (dues_of s.processors items turns))

  by_split : (state : State) (items : List ScheduleItem) (turns : ℕ) (first : List Turn) (turn : Turn)
      → Splits s code (beginning state turns) (dues_of s.processors items turns) first turn
      → stand_of (after s code state first) turn.processor ≢ IsDone
  by_split state items turns first turn p done =
      let w = behind_all s code (beginning state turns) p.before in
      let same : w.state ≡ after s code state first =
      state_at s code (beginning state turns) p.before ∙ ap (after s code state) p.turns_before in
      let whose : turn.processor ≡ processor_of (act_of p.due) = ap (λ t. t.processor) p.turn_is ∙ of_act s.processors w (act_of p.due) in
      let there : stand_of w.state (processor_of (act_of p.due)) ≡ IsDone =
      ap (λ (k : State). stand_of k (processor_of (act_of p.due))) same
      ∙ ap (stand_of (after s code state first)) (sym whose) ∙ done in
      both_ways (is_done_at (stand_of w.state (processor_of (act_of p.due)))) (ap is_done_at there) p.makes.lives

  pub skips_done : SkipsDone s code
  skips_done state items turns first more turn is =
      by_split state items turns first turn
      (splits s code (beginning state turns) (dues_of s.processors items turns) first more turn is)

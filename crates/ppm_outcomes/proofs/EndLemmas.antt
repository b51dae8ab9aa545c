-- How a run ends from a machine that opens.
use Rattle.std.proofs.Common.{◌≡◌, ◌<◌, ℕ, List, Some, sym, ◌∙◌, subst}
use Rattle.ppm_words.specs.declared.named_array.NamedArray.{NamedArray}
use Rattle.ppm_cells.specs.Finish.{finish_of}
use Rattle.ppm_cells.specs.Memory.{read, AreWordsOf}
use Rattle.ppm_cells.specs.declared.cell.Cell.TheVariants.{FinishWord}
use Rattle.ppm_cells.specs.declared.finish.Finish.TheVariants as finishes
use Rattle.ppm_cells.specs.declared.shape.Shape.{Shape}
use Rattle.ppm_code.specs.Code.{IsCode}
use Rattle.ppm_code.specs.declared.code.CodeParts.{CodeParts}
use Rattle.ppm_core.specs.Situation.{Situation, finish_in, run_on}
use Rattle.ppm_plan.specs.Forms.{plan_form}
use Rattle.ppm_plan.specs.Refusals.{IsKeeper}
use Rattle.ppm_plan.specs.Schedules.{Planned}
use Rattle.ppm_step.specs.declared.turn.Turn.{Turn}
use Rattle.ppm_step.specs.Laws.{IsFilledBehind}
use Rattle.ppm_step.proofs.FilledLemmas.{room_has_header}
use Rattle.ppm_choice.specs.declared.limits.Limits.{Limits}
use Rattle.ppm_choice.specs.Finishes.{Finishes}
use Rattle.ppm_choice.specs.Obeying.{ObeyAll}
use Rattle.ppm_choice.proofs.EndLemmas.{runs_finish}
use Rattle.ppm_loading.specs.declared.loading.Sizes.{Sizes}
use Rattle.ppm_loading.specs.Loading.{OpensRun}
use Rattle.ppm_outcomes.specs.RunOf.{finish_behind}
use Rattle.ppm_loading.proofs.SayLemmas.{unset_is}

module _ (sizes : Sizes) (code : CodeParts) (arrays : List NamedArray) (keeper : ℕ) where
  -- its words say nothing yet
  pub unset : (start : Situation) (b : OpensRun sizes code arrays keeper start) → read b.shape b.image.words FinishWord ≡ 0
  unset start b = b.opens.opened FinishWord tt ∙ unset_is

  pub unset_opened : (start : Situation) → OpensRun sizes code arrays keeper start → finish_in start ≡ 0
  unset_opened start b = subst (λ (m : Situation). finish_in m ≡ 0) (sym b.loads) (unset start b)

  pub words_opened : (start : Situation) (b : OpensRun sizes code arrays keeper start) → AreWordsOf b.shape b.image.words
  words_opened start b = subst (λ (s : Shape). AreWordsOf s b.image.words) b.opens.shape_is b.image.sized.words_are

  -- its keeper is there
  pub keeper_opened : (start : Situation) (b : OpensRun sizes code arrays keeper start) → keeper < b.shape.processors
  keeper_opened start b =
      subst (λ (k : ℕ). k < b.shape.processors) b.opens.keeper_is
      (subst (λ (s : Shape). b.image.keeper < s.processors) b.opens.shape_is b.image.sized.keeper_below)

  -- the finish word says that a pool is full only where one of the turns found it so
  pub has_filled : (start : Situation) (turns : List Turn) (place : ℕ) → OpensRun sizes code arrays keeper start → IsCode code
      → finish_of (finish_in (run_on start turns)) ≡ Some (finishes.OutOfRoom place)
      → IsFilledBehind start.shape start.code place start.state.words turns
  has_filled start turns place b is =
      subst (λ (m : Situation). finish_of (finish_in (run_on m turns)) ≡ Some (finishes.OutOfRoom place)
      → IsFilledBehind m.shape m.code place m.state.words turns) (sym b.loads)
      (room_has_header b.shape code is b.image.words turns place (unset start b))

  -- where each processor obeys a plan with this keeper, it has a cause
  pub has_finished : (plan : Planned) (limits : Limits) (start : Situation) (turns : List Turn) → OpensRun sizes code arrays keeper start → IsCode code
      → IsKeeper plan_form plan.items keeper → ObeyAll plan limits start.shape start.code start.state turns
      → Finishes start.shape start.code limits start.state turns (finish_behind start turns)
  has_finished plan limits start turns b is spared obey =
      subst (λ (m : Situation). Finishes m.shape m.code limits m.state turns (finish_behind m turns)) (sym b.loads)
      (runs_finish b.shape code is plan limits keeper b.image.words turns (words_opened start b) spared (keeper_opened start b)
      (subst (λ (m : Situation). ObeyAll plan limits m.shape m.code m.state turns) b.loads obey)).1

-- What the finish word says after a schedule's run of a program's machine.
use Rattle.std.proofs.Common.{◌≡◌, ◌≢◌, ◌<◌, ℕ, List, sym, ap, ◌∙◌, subst, arith}
use Rattle.ppm_cells.specs.declared.cell.Cell.TheVariants.{FinishWord}
use Rattle.ppm_code.specs.Code.{IsCode}
use Rattle.ppm_core.specs.Situation.{Situation, finish_in}
use Rattle.ppm_plan.specs.declared.schedule_item.ScheduleItem.{ScheduleItem}
use Rattle.ppm_plan.specs.Forms.{schedule_form}
use Rattle.ppm_plan.specs.Refusals.{IsKeeper}
use Rattle.ppm_step.specs.Laws.{IsProposedWord}
use Rattle.ppm_words.specs.declared.named_array.NamedArray.{NamedArray}
use Rattle.ppm_code.specs.declared.code.CodeParts.{CodeParts}
use Rattle.ppm_loading.specs.declared.loading.Sizes.{Sizes}
use Rattle.ppm_loading.specs.Loading.{OpensRun}
use Rattle.ppm_following.specs.Followed.{followed}
use Rattle.ppm_choice.proofs.UnfinishedLemmas.{none_quits, unfinished_is_exact}
use Rattle.ppm_outcomes.proofs.EndLemmas.{words_opened, keeper_opened}
use Rattle.ppm_loading.proofs.SayLemmas.{unset_is}

module _ (sizes : Sizes) (code : CodeParts) (arrays : List NamedArray) (keeper : ℕ) where
  -- its code is a code
  pub code_opened : (start : Situation) → OpensRun sizes code arrays keeper start → IsCode start.code → IsCode code
  code_opened start b = subst IsCode (ap (λ (m : Situation). m.code) b.loads)

  module _ (items : List ScheduleItem) (turns : ℕ) where
    -- where it isn't 0, it stands for what steps propose
    pub says_proposed : (start : Situation) → OpensRun sizes code arrays keeper start → IsCode code
        → finish_in (followed start items turns) ≢ 0 → IsProposedWord sizes.processors (finish_in (followed start items turns))
    says_proposed start b is some =
        subst (λ (n : ℕ). IsProposedWord n (finish_in (followed start items turns))) b.sized.processors
        (subst (λ (m : Situation). finish_in (followed m items turns) ≢ 0 → IsProposedWord b.shape.processors (finish_in (followed m items turns)))
        (sym b.loads)
        (none_quits b.shape code is b.image.words items turns (b.opens.opened FinishWord tt ∙ unset_is)) some)

    -- where it says nothing, exactly as many acts were made as may be
    pub unfinished_exactly : (start : Situation) → OpensRun sizes code arrays keeper start → IsCode code → IsKeeper schedule_form items keeper
        → finish_in (followed start items turns) ≡ 0 → (followed start items turns).turns ≡ turns
    unfinished_exactly start b is spared none =
        subst (λ (m : Situation). (followed m items turns).turns ≡ turns) (sym b.loads)
        (omega (
          arith,
          unfinished_is_exact b.shape code is b.image.words items keeper turns (words_opened sizes code arrays keeper start b) spared
              (keeper_opened sizes code arrays keeper start b)
              (subst (λ (m : Situation). finish_in (followed m items turns) ≡ 0) b.loads none),
        ))

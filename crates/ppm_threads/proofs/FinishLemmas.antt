-- After a drive the finish word is set, since its keeper obeys until it is done; and no quit for a watcher has set it.
use Rattle.std.proofs.Common.{◌≡◌, ◌≢◌, ◌∙◌, ◌<◌, ℕ, List, Option, Some, sym, ap, subst}
use Rattle.ppm_cells.specs.Finish.{finish_of}
use Rattle.ppm_cells.specs.Memory.{read, AreWordsOf}
use Rattle.ppm_cells.specs.declared.cell.Cell.TheVariants.{FinishWord}
use Rattle.ppm_cells.specs.declared.finish.Finish.{Finish}
use Rattle.ppm_cells.specs.declared.finish.Finish.TheVariants.{Unset, Ended, Trapped, OutOfTurns, OutOfRoom, Stopped, Broken}
use Rattle.ppm_cells.specs.declared.shape.Shape.{Shape}
use Rattle.ppm_code.specs.Code.{IsCode}
use Rattle.ppm_code.specs.declared.code.CodeParts.{CodeParts}
use Rattle.ppm_words.specs.declared.event.Event.{Event}
use Rattle.ppm_plan.specs.Forms.{plan_form}
use Rattle.ppm_plan.specs.Refusals.{IsKeeper}
use Rattle.ppm_plan.specs.Schedules.{Planned}
use Rattle.ppm_step.specs.declared.turn.Turn.{Turn}
use Rattle.ppm_step.specs.Laws.{IsProposed}
use Rattle.ppm_step.specs.State.{State}
use Rattle.ppm_choice.specs.declared.limits.Limits.{Limits}
use Rattle.ppm_choice.specs.Finishes.{Finishes, Proposed, Spent, Stood}
use Rattle.ppm_choice.proofs.EndLemmas.{runs_finish}
use Rattle.ppm_table.specs.declared.processor.Shared.{Shared}
use Rattle.ppm_table.specs.Run.{start, behind_turns}
use Rattle.ppm_table.specs.Shown.{opening_of}
use Rattle.ppm_threads.specs.Driven.{Driven, HasFinished}

-- what steps propose is no refusal
not_proposed : (processors : ℕ) (finish : Finish) → IsProposed processors finish → Some finish ≡ Some Stopped → ⊥
not_proposed processors Ended p e = cc
not_proposed processors (Trapped trap line) p e = cc
not_proposed processors (OutOfRoom place) p e = cc
not_proposed processors (Broken place) p e = cc
not_proposed processors Unset p e = absurd p
not_proposed processors (OutOfTurns other) p e = absurd p
not_proposed processors Stopped p e = absurd p

-- nor is the quit of one whose turns are spent
not_spent : (processor : ℕ) → Some (OutOfTurns processor) ≡ Some Stopped → ⊥
not_spent processor e = cc

no_refusal : (s : Shape) (code : CodeParts) (limits : Limits) (first : State) (turns : List Turn) (word : ℕ) → Finishes s code limits first turns word
    → read s first.words FinishWord ≡ 0 → finish_of word ≢ Some Stopped
no_refusal s code limits first turns word (Proposed p filled) none says = not_proposed s.processors p.finish p.is_proposed (sym p.stands ∙ says)
no_refusal s code limits first turns word (Spent processor less is counted) none says = not_spent processor (sym is ∙ says)
no_refusal s code limits first turns word (Stood same some) none says = some (same ∙ none)

pub has_finished : {W : Type 0} (told : W → Option (List Event)) (plan : Planned) (limits : Limits) (s : Shared) (words : List ℕ) (old new : List W) (keeper : ℕ) → IsCode s.code
    → keeper < plan.processors → plan.processors ≡ s.shape.processors → IsKeeper plan_form plan.items keeper
    → Driven told plan limits (opening_of s) words old new → HasFinished (opening_of s) words
has_finished told plan limits s words old new keeper is below same keeps d =
    let k = opening_of s in
    let there : keeper < k.shape.processors = subst (λ (n : ℕ). keeper < n) (same ∙ ap (λ (t : Shape). t.processors) (sym s.told.0)) below in
    let is_code : IsCode k.code = subst (λ (x : CodeParts). IsCode x) (sym s.told.1) is in
    let are : AreWordsOf k.shape k.words = subst (λ (t : Shape). AreWordsOf t k.words) (sym s.told.0) s.opened in
    let ends = runs_finish k.shape k.code is_code plan limits keeper k.words d.turns are keeps there d.obey in
    subst (λ (l : List ℕ). HasFinished k l) d.words_are (record {
      is_set = ends.0;
      no_refusal = no_refusal k.shape k.code limits (start k) d.turns (read k.shape (behind_turns k d.turns).words FinishWord) ends.1;
    })

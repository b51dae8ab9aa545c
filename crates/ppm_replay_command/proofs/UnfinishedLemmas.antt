-- An answer that a replay is unfinished comes only where the finish word is 0: each other finish has an answer of its own.
use Rattle.std.proofs.Common.{◌≡◌, ◌≢◌, ℕ, zero, suc, List, refl, arith}
use Rattle.ppm_words.specs.declared.named_array.NamedArray.{NamedArray}
use Rattle.ppm_words.specs.declared.trap.Trap.{Trap}
use Rattle.ppm_cells.specs.Ending.{ending_of}
use Rattle.ppm_cells.specs.declared.finish.Finish.{Finish}
use Rattle.ppm_cells.specs.declared.finish.Finish.TheVariants as finishes
use Rattle.ppm_code.specs.declared.code.CodeParts.{CodeParts}
use Rattle.ppm_step.specs.Laws.{IsProposed, IsProposedWord}
use Rattle.ppm_core.specs.Situation.{Situation, finish_in}
use Rattle.ppm_plan.specs.declared.schedule_item.ScheduleItem.{ScheduleItem}
use Rattle.ppm_following.specs.Followed.{followed}
use Rattle.ppm_answers.specs.declared.answer.Answer.{Answer}
use Rattle.ppm_answers.specs.declared.answer.Answer.TheVariants as answers
use Rattle.ppm_cli.specs.declared.replay.ReplayOptions.{ReplayOptions}
use Rattle.ppm_loading.specs.Says.{IsOfFinish, IsOfEnding}
use Rattle.ppm_loading.proofs.SayLemmas.{of_proposed}
use Rattle.ppm_outcomes.specs.Replays.{tally_of, IsSaid, CodeHas}

module _ (processors turns : ℕ) (m : Situation) (arrays : List NamedArray) where
  -- how a replay is answered
  abbrev ended : List NamedArray → Answer
  ended values = answers.EndedWith values (tally_of m)

  abbrev trapped : Trap → ℕ → Answer
  trapped trap line = answers.TrappedWith trap line (tally_of m)

  abbrev IsUnfinished : Answer → Type 0
  IsUnfinished a = a ≡ answers.Unfinished turns

  unset_finish : (finish : Finish) → IsProposed processors finish → (n : ℕ)
      → IsOfFinish m.shape m.array_lengths m.state.words ended trapped (λ processor x. ⊥) IsUnfinished arrays finish (answers.Unfinished n) → ⊥
  unset_finish finishes.Ended p n h = cc
  unset_finish (finishes.Trapped trap line) p n h = cc
  unset_finish (finishes.OutOfRoom other) p n h = cc
  unset_finish (finishes.Broken other) p n h = cc
  unset_finish (finishes.OutOfTurns other) p n h = absurd p
  unset_finish finishes.Stopped p n h = absurd p
  unset_finish finishes.Unset p n h = absurd p

  unset_by_word : (word : ℕ) → (word ≢ 0 → IsProposedWord processors word) → (n : ℕ)
      → IsOfEnding m.shape m.array_lengths m.state.words ended trapped (λ processor x. ⊥) IsUnfinished arrays (ending_of word) (answers.Unfinished n)
      → word ≡ 0
  unset_by_word zero p n h = refl
  unset_by_word (suc word) p n h =
      let w = p (λ e. omega (arith, e)) in
      absurd (unset_finish w.finish w.is_proposed n
      (of_proposed ended trapped (λ processor x. ⊥) IsUnfinished m.shape m.array_lengths m.state.words arrays processors (suc word) w
      (answers.Unfinished n) h))

  unset_said : (finish_in m ≢ 0 → IsProposedWord processors (finish_in m)) → (n : ℕ) → IsSaid turns m arrays (answers.Unfinished n) → finish_in m ≡ 0
  unset_said p n h = unset_by_word (finish_in m) p n h

-- of an answer of a replay
pub unfinished_has : (options : ReplayOptions) (items : List ScheduleItem) (code : CodeParts) (input : List NamedArray) (n : ℕ)
    (h : CodeHas options items code input (answers.Unfinished n)) → finish_in (followed h.start items options.turns) ≡ 0
unfinished_has options items code input n h =
    unset_said options.processors options.turns (followed h.start items options.turns) input h.proposed n h.says

-- The answers that programs and texts have where they are replayed.
use Rattle.std.proofs.Common.{◌≡◌, ◌≢◌, ◌<◌, ◌⊎◌, ◌∷◌, [], ℕ, zero, suc, List, Some, inl, inr, refl, sym, ap, ◌∙◌, subst, arith, lit≤}
use Rattle.ppm_words.specs.declared.named_array.NamedArray.{NamedArray}
use Rattle.ppm_code.specs.declared.code.CodeParts.{CodeParts}
use Rattle.ppm_words.specs.declared.trap.Trap.{Trap}
use Rattle.ppm_cells.specs.Finish.{finish_of}
use Rattle.ppm_cells.specs.declared.finish.Finish.{Finish}
use Rattle.ppm_cells.specs.declared.finish.Finish.TheVariants as finishes
use Rattle.ppm_cells.specs.Ending.{ending_of}
use Rattle.ppm_core.specs.Situation.{Situation, finish_in}
use Rattle.ppm_plan.specs.declared.schedule_item.ScheduleItem.{ScheduleItem}
use Rattle.ppm_code.specs.Code.{IsCode}
use Rattle.ppm_step.specs.Laws.{IsProposed, IsProposedWord, IsFilledBehind}
use Rattle.ppm_step.specs.Standings.{unknown_place}
use Rattle.ppm_cut_code.specs.Routines.{code_of}
use Rattle.ppm_tree.specs.Tree.{ProgramTree}
use Rattle.ppm_tree.specs.Program.{initial_arrays}
use Rattle.ppm_answers.specs.declared.answer.Answer.{Answer}
use Rattle.ppm_answers.specs.declared.answer.Answer.TheVariants as answers
use Rattle.ppm_cli.specs.declared.replay.ReplayOptions.{ReplayOptions}
use Rattle.ppm_cli.specs.Words.{AreReplayed}
use Rattle.ppm_plan.specs.Forms.{schedule_form}
use Rattle.ppm_plan.specs.Refusals.{IsKeeper}
use Rattle.ppm_loading.specs.declared.loading.Sizes.{Sizes}
use Rattle.ppm_loading.specs.Loading.{AreSizes, OpensRun}
use Rattle.ppm_loading.specs.Says.{IsTheOne, IsOfFinish, IsOfEnding}
use Rattle.ppm_choice.specs.Schedules.{schedule_turns}
use Rattle.ppm_following.specs.Followed.{followed}
use Rattle.ppm_outcomes.specs.Replays.{sizes_of, tally_of, IsSaid, CodeHas, ProgramHas}
use Rattle.ppm_outcomes.proofs.ExactLemmas.{says_proposed, unfinished_exactly}
use Rattle.ppm_loading.proofs.ProgramLemmas.{AreKinds}
use Rattle.ppm_outcomes.proofs.EndLemmas.{has_filled}
use Rattle.ppm_loading.proofs.SayLemmas.{one_of_ending, some_of_proposed, of_proposed}

-- options in their ranges say sizes that a machine may have
pub replayed_sizes : (options : ReplayOptions) → AreReplayed options → AreSizes (sizes_of options)
replayed_sizes options are = record {
  processors_least = are.0.0;
  processors_most = are.0.1;
  room_least = are.2.0;
  pools_most = are.4;
  slots_least = are.3.0;
  slots_most = are.3.1;
  arrays_most = lit≤ tt;
}

-- the answers that a program has where it is replayed on so many processors for so many acts
abbrev pub IsOfProgram : (processors turns : ℕ) → Answer → Type 0
IsOfProgram processors turns (answers.EndedWith arrays tally) = Unit {0}
IsOfProgram processors turns (answers.TrappedWith trap line tally) = Unit {0}
IsOfProgram processors turns (answers.Unfinished n) = n ≡ turns
IsOfProgram processors turns (answers.OutOfRoom place) = place < processors
IsOfProgram processors turns (answers.Broken place) = (place < processors) ⊎ (place ≡ unknown_place)
IsOfProgram processors turns _ = ⊥

pub kinds : (processors turns : ℕ) → AreKinds (IsOfProgram processors turns)
kinds processors turns = record { no_refusal = λ r k. k; no_fault = λ k. k; no_memory = λ k. k; no_plan = λ number k. k }

module _ (processors turns : ℕ) (m : Situation) (arrays : List NamedArray) where
  -- how a replay is answered
  abbrev ended : List NamedArray → Answer
  ended values = answers.EndedWith values (tally_of m)

  abbrev trapped : Trap → ℕ → Answer
  trapped trap line = answers.TrappedWith trap line (tally_of m)

  abbrev IsUnfinished : Answer → Type 0
  IsUnfinished a = a ≡ answers.Unfinished turns

  -- the answer of a finish that steps propose is such an answer
  of_finish : (finish : Finish) → IsProposed processors finish → (a : Answer)
      → IsOfFinish m.shape m.array_lengths m.state.words ended trapped (λ processor x. ⊥) IsUnfinished arrays finish a → IsOfProgram processors turns a
  of_finish finishes.Ended p a h = subst (IsOfProgram processors turns) (sym h) tt
  of_finish (finishes.Trapped trap line) p a h = subst (IsOfProgram processors turns) (sym h) tt
  of_finish (finishes.OutOfRoom place) p a h = subst (IsOfProgram processors turns) (sym h) p
  of_finish (finishes.Broken place) p a h = subst (IsOfProgram processors turns) (sym h) p
  of_finish (finishes.OutOfTurns processor) p a h = absurd p
  of_finish finishes.Stopped p a h = absurd p
  of_finish finishes.Unset p a h = absurd p

  by_word : (word : ℕ) → (word ≢ 0 → IsProposedWord processors word) → (a : Answer)
      → IsOfEnding m.shape m.array_lengths m.state.words ended trapped (λ processor x. ⊥) IsUnfinished arrays (ending_of word) a → IsOfProgram processors turns a
  by_word zero p a h = subst (IsOfProgram processors turns) (sym h) refl
  by_word (suc word) p a h =
      let w = p (λ e. omega (arith, e)) in
      of_finish w.finish w.is_proposed a (of_proposed ended trapped (λ processor x. ⊥) IsUnfinished m.shape m.array_lengths m.state.words arrays processors (suc word) w a h)

  -- the answer that is said, and that there is one
  kind_said : (finish_in m ≢ 0 → IsProposedWord processors (finish_in m)) → (a : Answer) → IsSaid turns m arrays a
      → IsOfProgram processors turns a
  kind_said p a h = by_word (finish_in m) p a h

  some_by_word : (word : ℕ) → (word ≢ 0 → IsProposedWord processors word)
      → (a : Answer) × IsOfEnding m.shape m.array_lengths m.state.words ended trapped (λ processor x. ⊥) IsUnfinished arrays (ending_of word) a
  some_by_word zero p = (answers.Unfinished turns, refl)
  some_by_word (suc word) p =
      some_of_proposed ended trapped (λ processor x. ⊥) IsUnfinished m.shape m.array_lengths m.state.words arrays processors (suc word) (p (λ e. omega (arith, e)))

  some_said : (finish_in m ≢ 0 → IsProposedWord processors (finish_in m)) → (a : Answer) × IsSaid turns m arrays a
  some_said p = some_by_word (finish_in m) p

  -- it is that a pool is full only where the finish word says so
  room_finish : (finish : Finish) → IsProposed processors finish → (place : ℕ)
      → IsOfFinish m.shape m.array_lengths m.state.words ended trapped (λ processor x. ⊥) IsUnfinished arrays finish (answers.OutOfRoom place)
      → finish ≡ finishes.OutOfRoom place
  room_finish finishes.Ended p place h = cc
  room_finish (finishes.Trapped trap line) p place h = cc
  room_finish (finishes.OutOfRoom other) p place h = let same : other ≡ place = cc in ap (λ n. finishes.OutOfRoom n) same
  room_finish (finishes.Broken other) p place h = cc
  room_finish (finishes.OutOfTurns other) p place h = absurd p
  room_finish finishes.Stopped p place h = absurd p
  room_finish finishes.Unset p place h = absurd p

  room_by_word : (word : ℕ) → (word ≢ 0 → IsProposedWord processors word) → (place : ℕ)
      → IsOfEnding m.shape m.array_lengths m.state.words ended trapped (λ processor x. ⊥) IsUnfinished arrays (ending_of word) (answers.OutOfRoom place)
      → finish_of word ≡ Some (finishes.OutOfRoom place)
  room_by_word zero p place h = absurd (different h)
    where
      different : answers.OutOfRoom place ≡ answers.Unfinished turns → ⊥
      different e = cc
  room_by_word (suc word) p place h =
      let w = p (λ e. omega (arith, e)) in
      let of = of_proposed ended trapped (λ processor x. ⊥) IsUnfinished m.shape m.array_lengths m.state.words arrays processors (suc word) w
      (answers.OutOfRoom place) h in
      w.stands ∙ ap Some (room_finish w.finish w.is_proposed place of)

  room_said : (finish_in m ≢ 0 → IsProposedWord processors (finish_in m)) → (place : ℕ) → IsSaid turns m arrays (answers.OutOfRoom place)
      → finish_of (finish_in m) ≡ Some (finishes.OutOfRoom place)
  room_said p place h = room_by_word (finish_in m) p place h

  -- there is no other
  pub one_said : (a b : Answer) → IsSaid turns m arrays a → IsSaid turns m arrays b → a ≡ b
  one_said a b h k =
      one_of_ending ended trapped (λ processor x. ⊥) IsUnfinished m.shape m.array_lengths m.state.words arrays (λ processor x y d e. absurd d) (λ x y d e. d ∙ sym e)
      (ending_of (finish_in m)) a b h k

module _ (options : ReplayOptions) (items : List ScheduleItem) where
  module _ (code : CodeParts) (input : List NamedArray) (keeper : ℕ) (start : Situation) (spared : IsKeeper schedule_form items keeper)
      (opens : OpensRun (sizes_of options) code input keeper start) (is : IsCode code) where
    abbrev ending : Situation
    ending = followed start items options.turns

    -- what is said of the machine after the run of the schedule is the code's answer
    pub has_said : (a : Answer) → IsSaid options.turns ending input a → CodeHas options items code input a
    has_said a h = record {
      keeper = keeper;
      spared = spared;
      start = start;
      opens = opens;
      proposed = says_proposed (sizes_of options) code input keeper items options.turns start opens is;
      exact = unfinished_exactly (sizes_of options) code input keeper items options.turns start opens is spared;
      filled = λ place.
          has_filled (sizes_of options) code input keeper start
          (schedule_turns start.shape start.code start.state items options.turns) place opens is;
      says = h;
    }

    -- it begins there
    pub said_start : (a : Answer) (h : IsSaid options.turns ending input a) → (has_said a h).start ≡ start
    unfolding has_said
    said_start a h = refl

    -- something is said of it
    pub some_end : (a : Answer) × IsSaid options.turns ending input a
    some_end = some_said options.processors options.turns ending input
        (says_proposed (sizes_of options) code input keeper items options.turns start opens is)

    -- a replay of the code has an answer
    pub some_has : (a : Answer) × CodeHas options items code input a
    some_has = (some_end.0, has_said some_end.0 some_end.1)

    -- and it is the one that is said
    the_one_has : (a : Answer) → IsTheOne (IsSaid options.turns ending input) a → CodeHas options items code input a
    the_one_has a only = subst (CodeHas options items code input) (sym (only some_end.0 some_end.1)) (has_said some_end.0 some_end.1)

  pub code_has : (code : CodeParts) (input : List NamedArray) (sizes : Sizes) (keeper : ℕ) (start end : Situation) (arrays : List NamedArray) (a : Answer)
      → sizes ≡ sizes_of options → IsKeeper schedule_form items keeper → OpensRun sizes code input keeper start → IsCode code
      → end ≡ followed start items options.turns → arrays ≡ input → IsTheOne (IsSaid options.turns end arrays) a
      → CodeHas options items code input a
  code_has code input sizes keeper start end arrays a is_sizes spared opens is ends is_arrays only =
      the_one_has code input keeper start spared (subst (λ (s : Sizes). OpensRun s code input keeper start) is_sizes opens) is a
      (subst (λ (l : List NamedArray). IsTheOne (IsSaid options.turns (followed start items options.turns) l) a) is_arrays
      (subst (λ (m : Situation). IsTheOne (IsSaid options.turns m arrays) a) ends only))

  -- an answer of a code is of no other kind
  pub of_code : (code : CodeParts) (input : List NamedArray) (a : Answer) → CodeHas options items code input a → IsOfProgram options.processors options.turns a
  of_code code input a h =
      kind_said options.processors options.turns (followed h.start items options.turns) input h.proposed a h.says

  -- where it is that a pool is full, one of the turns found it so
  pub filled_has : (code : CodeParts) (input : List NamedArray) (place : ℕ) (h : CodeHas options items code input (answers.OutOfRoom place))
      → IsFilledBehind h.start.shape h.start.code place h.start.state.words
      (schedule_turns h.start.shape h.start.code h.start.state items options.turns)
  filled_has code input place h =
      h.filled place (room_said options.processors options.turns (followed h.start items options.turns) input h.proposed place h.says)

  -- an answer of a program's replay is of no other kind
  pub of_program : (t : ProgramTree) (a : Answer) → ProgramHas options items t a → IsOfProgram options.processors options.turns a
  of_program t = of_code (code_of t) (initial_arrays t)

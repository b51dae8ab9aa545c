-- The answers that codes, programs and cases have where a replay's counts are told.
use Rattle.std.proofs.Common.{◌≡◌, ◌≢◌, ◌+◌, ℕ, zero, suc, List, length, sym, ap, subst, arith}
use Rattle.ppm_words.specs.declared.named_array.NamedArray.{NamedArray}
use Rattle.ppm_words.specs.declared.trap.Trap.{Trap}
use Rattle.ppm_cells.specs.Ending.{ending_of}
use Rattle.ppm_cells.specs.declared.finish.Finish.{Finish}
use Rattle.ppm_cells.specs.declared.finish.Finish.TheVariants as finishes
use Rattle.ppm_code.specs.Code.{IsCode}
use Rattle.ppm_code.specs.declared.code.CodeParts.{CodeParts}
use Rattle.ppm_core.specs.Situation.{Situation, finish_in}
use Rattle.ppm_plan.specs.declared.schedule_item.ScheduleItem.{ScheduleItem}
use Rattle.ppm_plan.specs.Forms.{schedule_form}
use Rattle.ppm_plan.specs.Refusals.{IsKeeper}
use Rattle.ppm_step.specs.Laws.{IsProposed, IsProposedWord}
use Rattle.ppm_step.specs.State.{along, forks_of, takes_of}
use Rattle.ppm_tree.specs.Tree.{ProgramTree}
use Rattle.ppm_tree.specs.Program.{initial_arrays}
use Rattle.ppm_cut_code.specs.Routines.{code_of}
use Rattle.ppm_answers.specs.declared.answer.Answer.{Answer}
use Rattle.ppm_answers.specs.declared.answer.Answer.TheVariants as answers
use Rattle.ppm_answers.specs.declared.run_counts.RunCounts.{RunCounts}
use Rattle.ppm_answers.specs.declared.sweep.Came.{Came}
use Rattle.ppm_answers.specs.declared.sweep.Came.TheVariants as came
use Rattle.ppm_answers.specs.declared.tally.Tally.{Tally}
use Rattle.ppm_answers.specs.Texts.{tally_in}
use Rattle.ppm_cli.specs.declared.replay.ReplayOptions.{ReplayOptions}
use Rattle.ppm_trace.specs.RunCounts.{CountsAreOfTurns, run_counts}
use Rattle.ppm_following.specs.OrderedFaults.{ordered_faults}
use Rattle.ppm_loading.specs.declared.loading.Sizes.{Sizes}
use Rattle.ppm_loading.specs.Loading.{OpensRun}
use Rattle.ppm_loading.specs.Says.{arrays_from, IsTheOne, IsOfFinish, IsOfEnding}
use Rattle.ppm_loading.proofs.CaseLemmas.{AreCaseKinds}
use Rattle.ppm_loading.proofs.ProgramLemmas.{AreKinds}
use Rattle.ppm_loading.proofs.SayLemmas.{of_proposed}
use Rattle.ppm_following.specs.Followed.{followed}
use Rattle.ppm_outcomes.specs.CodeReplays.{turns_in}
use Rattle.ppm_replay_command.specs.CountedReplays.{IsCounted, CodeHas, ProgramHas}
use Rattle.ppm_outcomes.specs.Replays.{with_tally}
use Rattle.ppm_outcomes.specs.Replays.{sizes_of, tally_of, IsSaid}
use Rattle.ppm_outcomes.proofs.ExactLemmas.{says_proposed}
use Rattle.ppm_outcomes.proofs.ReplayLemmas.{has_said, said_start, some_end}

-- the answers that a code has where its counts are told
abbrev pub IsOfCode : Answer → Type 0
IsOfCode (answers.ReplayedWith c counts) = Unit {0}
IsOfCode _ = ⊥

pub kinds : AreKinds IsOfCode
kinds = record { no_refusal = λ r k. k; no_fault = λ k. k; no_memory = λ k. k; no_plan = λ number k. k }

pub case_kinds : AreCaseKinds IsOfCode
case_kinds = record { no_input = λ r k. k; no_listing = λ r k. k; no_fault = λ k. k; no_memory = λ k. k; no_plan = λ number k. k }

module _ (options : ReplayOptions) (items : List ScheduleItem) where
  -- an answer of a code is of no other kind
  pub of_code : (code : CodeParts) (input : List NamedArray) (a : Answer) → CodeHas options items code input a → IsOfCode a
  of_code code input (answers.ReplayedWith c counts) h = tt
  of_code code input a h = h

  -- nor is one of a program
  pub of_program : (t : ProgramTree) (a : Answer) → ProgramHas options items t a → IsOfCode a
  of_program t a h = of_code (code_of t) (initial_arrays t) a h

-- what is said came to something
module _ (processors turns : ℕ) (m : Situation) (arrays : List NamedArray) where
  abbrev ended : List NamedArray → Answer
  ended values = answers.EndedWith values (tally_of m)

  abbrev trapped : Trap → ℕ → Answer
  trapped trap line = answers.TrappedWith trap line (tally_of m)

  abbrev IsUnfinished : Answer → Type 0
  IsUnfinished a = a ≡ answers.Unfinished turns

  by_finish : (finish : Finish) → IsProposed processors finish → (a : Answer)
      → IsOfFinish m.shape m.array_lengths m.state.words ended trapped (λ processor x. ⊥) IsUnfinished arrays finish a
      → (c : Came) × (a ≡ with_tally c (tally_of m))
  by_finish finishes.Ended p a h = (came.Ended (arrays_from m.shape m.array_lengths m.state.words 0 arrays), h)
  by_finish (finishes.Trapped trap line) p a h = (came.Trapped trap line, h)
  by_finish (finishes.OutOfRoom place) p a h = (came.OutOfRoom place, h)
  by_finish (finishes.Broken place) p a h = (came.Broken place, h)
  by_finish (finishes.OutOfTurns processor) p a h = absurd p
  by_finish finishes.Stopped p a h = absurd p
  by_finish finishes.Unset p a h = absurd p

  by_word : (word : ℕ) → (word ≢ 0 → IsProposedWord processors word) → (a : Answer)
      → IsOfEnding m.shape m.array_lengths m.state.words ended trapped (λ processor x. ⊥) IsUnfinished arrays (ending_of word) a
      → (c : Came) × (a ≡ with_tally c (tally_of m))
  by_word zero p a h = (came.Unfinished turns, h)
  by_word (suc word) p a h =
      let w = p (λ e. omega (arith, e)) in
      by_finish w.finish w.is_proposed a
      (of_proposed ended trapped (λ processor x. ⊥) IsUnfinished m.shape m.array_lengths m.state.words arrays processors (suc word) w a h)

  pub came_said : (finish_in m ≢ 0 → IsProposedWord processors (finish_in m)) → (a : Answer) → IsSaid turns m arrays a
      → (c : Came) × (a ≡ with_tally c (tally_of m))
  came_said p a h = by_word (finish_in m) p a h

-- of none at first, so many more
from_none : (first more own : ℕ) → first ≡ 0 → own ≡ more → first + more ≡ own
from_none first more own none is = omega (arith, none, is)

module _ (law : CountsAreOfTurns) (options : ReplayOptions) (items : List ScheduleItem) (code : CodeParts) (input : List NamedArray) (keeper : ℕ)
    (start : Situation) (spared : IsKeeper schedule_form items keeper) (opens : OpensRun (sizes_of options) code input keeper start) (is : IsCode code)
  where
    abbrev ending : Situation
    ending = followed start items options.turns

    abbrev own : RunCounts
    own = run_counts (ordered_faults items) start (turns_in options items start)

    -- the machine counts as many forks and takes
    tallies : tally_of ending ≡ tally_in own
    tallies =
        let of = law (ordered_faults items) start (turns_in options items start) in
        let forks = from_none start.forks (length (along start.shape start.code forks_of start.state (turns_in options items start))) own.forks
        (ap (λ (m : Situation). m.forks) opens.loads) of.forks in
        let takes = from_none start.takes (length (along start.shape start.code takes_of start.state (turns_in options items start))) own.takes
        (ap (λ (m : Situation). m.takes) opens.loads) of.takes in
        λ i. record { forks = forks i; takes = takes i }

    -- what is said of the machine after the run, with what is counted in it
    pub counted_said : (c : Came) → IsSaid options.turns ending input (with_tally c (tally_of ending)) → IsCounted options items code input c own
    counted_said c said =
        let a = with_tally c (tally_in own) in
        let is_said : IsSaid options.turns ending input a = subst (λ (t : Tally). IsSaid options.turns ending input (with_tally c t)) tallies said in
        record {
          has = has_said options items code input keeper start spared opens is a is_said;
          counted = ap (λ (m : Situation). run_counts (ordered_faults items) m (turns_in options items m))
              (sym (said_start options items code input keeper start spared opens is a is_said));
        }

    -- it is the one that is said
    pub the_one_counted : (c : Came) → IsTheOne (IsSaid options.turns ending input) (with_tally c (tally_of ending))
        → IsCounted options items code input c own
    the_one_counted c only =
        let end = some_end options items code input keeper start spared opens is in
        counted_said c (subst (IsSaid options.turns ending input) (sym (only end.0 end.1)) end.1)

    -- and there is one
    pub some_counted : (a : Answer) × CodeHas options items code input a
    some_counted =
        let end = some_end options items code input keeper start spared opens is in
        let c = came_said options.processors options.turns ending input
        (says_proposed (sizes_of options) code input keeper items options.turns start opens is) end.0 end.1 in
        (answers.ReplayedWith c.0 own, counted_said c.0 (subst (IsSaid options.turns ending input) c.1 end.1))

-- what the calls that load, count and read off give
pub code_counted : (law : CountsAreOfTurns) (options : ReplayOptions) (items : List ScheduleItem) (code : CodeParts) (input : List NamedArray)
    (sizes : Sizes) (keeper : ℕ) (start end : Situation) (arrays : List NamedArray) (c : Came) (counts : RunCounts)
    → sizes ≡ sizes_of options → IsKeeper schedule_form items keeper → OpensRun sizes code input keeper start → IsCode code
    → end ≡ followed start items options.turns → arrays ≡ input → IsTheOne (IsSaid options.turns end arrays) (with_tally c (tally_of end))
    → counts ≡ run_counts (ordered_faults items) start (turns_in options items start) → CodeHas options items code input (answers.ReplayedWith c counts)
code_counted law options items code input sizes keeper start end arrays c counts is_sizes spared opens is ends is_arrays only counted =
    let opened = subst (λ (s : Sizes). OpensRun s code input keeper start) is_sizes opens in
    subst (λ (n : RunCounts). IsCounted options items code input c n) (sym counted)
    (the_one_counted law options items code input keeper start spared opened is c
    (subst (λ (l : List NamedArray). IsTheOne (IsSaid options.turns (followed start items options.turns) l)
    (with_tally c (tally_of (followed start items options.turns)))) is_arrays
    (subst (λ (m : Situation). IsTheOne (IsSaid options.turns m arrays) (with_tally c (tally_of m))) ends only)))

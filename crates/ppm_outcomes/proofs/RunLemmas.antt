-- The answers that programs and texts have where they are run.
use Rattle.std.proofs.Common.{◌≡◌, ◌≢◌, ◌⊎◌, ◌≤◌, ◌<◌, ◌∙◌, inl, inr, ℕ, List, [], ◌∷◌, get_or, length, map, Option, Some, None, arith, refl, sym, ap, subst, lit≤}
use Rattle.ppm_words.specs.declared.event.Event.{Event}
use Rattle.ppm_words.specs.declared.named_array.NamedArray.{NamedArray}
use Rattle.ppm_ports.specs.Outside.{ToldLists}
use Rattle.ppm_cells.specs.Finish.{finish_of}
use Rattle.ppm_cells.specs.Memory.{read}
use Rattle.ppm_cells.specs.declared.cell.Cell.TheVariants.{FinishWord}
use Rattle.ppm_cells.specs.declared.finish.Finish.{Finish}
use Rattle.ppm_cells.specs.declared.finish.Finish.TheVariants as finishes
use Rattle.ppm_cells.specs.declared.shape.Shape.{Shape}
use Rattle.ppm_cells.specs.declared.ending.Ending.{Ending}
use Rattle.ppm_cells.specs.declared.ending.Ending.TheVariants.{With}
use Rattle.ppm_code.specs.Code.{IsCode}
use Rattle.ppm_code.specs.declared.code.CodeParts.{CodeParts}
use Rattle.ppm_cells.specs.Ending.{ending_of}
use Rattle.ppm_core.specs.Situation.{Situation, finish_in}
use Rattle.ppm_plan.specs.declared.plan_item.PlanItem.{PlanItem}
use Rattle.ppm_plan.specs.Forms.{plan_form}
use Rattle.ppm_plan.specs.Refusals.{IsKeeper}
use Rattle.ppm_plan.specs.Schedules.{Planned}
use Rattle.ppm_step.specs.declared.turn.Turn.{Turn}
use Rattle.ppm_step.specs.Laws.{IsProposed, IsProposedWord, IsFilledBehind}
use Rattle.ppm_step.specs.Standings.{unknown_place}
use Rattle.ppm_choice.specs.declared.limits.Limits.{Limits}
use Rattle.ppm_choice.specs.Obeying.{ObeyAll}
use Rattle.ppm_tree.specs.Tree.{ProgramTree}
use Rattle.ppm_tree.specs.Program.{initial_arrays}
use Rattle.ppm_cut_code.specs.Routines.{code_of}
use Rattle.ppm_answers.specs.declared.answer.Answer.{Answer}
use Rattle.ppm_answers.specs.declared.answer.Answer.TheVariants as answers
use Rattle.ppm_cli.specs.declared.run.RunOptions.{RunOptions}
use Rattle.ppm_cli.specs.Words.{AreRun}
use Rattle.ppm_loading.specs.declared.loading.Sizes.{Sizes}
use Rattle.ppm_loading.specs.Loading.{AreSizes, OpensRun, opened_by}
use Rattle.ppm_choice.specs.Deeds.{work_made}
use Rattle.ppm_choice.specs.Finishes.{Finishes, Proposed, Spent, Stood}
use Rattle.ppm_outcomes.specs.RunOf.{words_behind, finish_behind, RunGivenUp}
use Rattle.ppm_loading.specs.Says.{IsTheOne, IsOfFinish, IsOfEnding}
use Rattle.ppm_table.specs.Closed.{Closing}
use Rattle.ppm_table.specs.Shown.{opening_of}
use Rattle.ppm_table.specs.declared.processor.Shared.{Shared}
use Rattle.ppm_threads.specs.Driven.{Driven, OthersStay, WasRefused}
use Rattle.ppm_outcomes.specs.Runs.{plan_of, limits_of, sizes_of, IsSaid, CodeHas, CodeGivenUp, CodeWants, ProgramHas, RunTold, TextHas, RunHas}
use Rattle.ppm_loading.specs.Planned.{PlannedHas, HasByItems}
use Rattle.ppm_outcomes.specs.Watchers.{AreTold, OthersKeep, ToldNothing, ToldInPart, ToldWhole}
use Rattle.ppm_outcomes.proofs.EndLemmas.{unset_opened, has_finished}
use Rattle.ppm_loading.proofs.LoadingLemmas.{opens_processors}
use Rattle.ppm_loading.proofs.ProgramLemmas.{AreKinds}
use Rattle.ppm_outcomes.proofs.WatchLemmas.{are_told, others_keep, stays}
use Rattle.ppm_outcomes.proofs.WantLemmas.{lists_refused}
use Rattle.ppm_loading.proofs.SayLemmas.{ending_is, one_of_ending, some_of_proposed, of_proposed}

-- options in their ranges say sizes that a machine may have
pub run_sizes : (options : RunOptions) → AreRun options → AreSizes (sizes_of options)
run_sizes options are = record {
  processors_least = are.0.0;
  processors_most = omega (arith, are.0.1);
  room_least = are.2.0;
  pools_most = are.6;
  slots_least = are.3.0;
  slots_most = are.3.1;
  arrays_most = lit≤ tt;
}

-- the answers that a program has where it is run on so many processors
abbrev pub IsOfProgram : (processors : ℕ) → Answer → Type 0
IsOfProgram processors (answers.Ended arrays) = Unit {0}
IsOfProgram processors (answers.Trapped trap line) = Unit {0}
IsOfProgram processors (answers.OutOfTurns processor) = processor < processors
IsOfProgram processors (answers.OutOfRoom place) = place < processors
IsOfProgram processors (answers.Broken place) = (place < processors) ⊎ (place ≡ unknown_place)
IsOfProgram processors _ = ⊥

pub kinds : (processors : ℕ) → AreKinds (IsOfProgram processors)
kinds processors = record { no_refusal = λ r k. k; no_fault = λ k. k; no_memory = λ k. k; no_plan = λ number k. k }

-- that a processor has made its turns is an answer, and that a run has no end is none
abbrev IsOutOfTurns : ℕ → Answer → Type 0
IsOutOfTurns processor a = a ≡ answers.OutOfTurns processor

abbrev HasNoEnd : Answer → Type 0
HasNoEnd a = ⊥

module _ (s : Shape) (lengths words : List ℕ) (arrays : List NamedArray) where
  abbrev Of : Finish → Answer → Type 0
  Of finish a = IsOfFinish s lengths words answers.Ended answers.Trapped IsOutOfTurns HasNoEnd arrays finish a

  abbrev At : Ending → Answer → Type 0
  At ending a = IsOfEnding s lengths words answers.Ended answers.Trapped IsOutOfTurns HasNoEnd arrays ending a

  abbrev word : ℕ
  word = read s words FinishWord

  -- two answers that are said are one
  pub one_said : (a b : Answer) → IsSaid s lengths arrays words a → IsSaid s lengths arrays words b → a ≡ b
  one_said a b h k =
      one_of_ending answers.Ended answers.Trapped IsOutOfTurns HasNoEnd s lengths words arrays (λ processor x y d e. d ∙ sym e)
      (λ x y d e. absurd d) (ending_of word) a b h k

  module _ (processors : ℕ) where
    -- the answer of a finish that steps propose is such an answer
    pub of_finish : (finish : Finish) → IsProposed processors finish → (a : Answer) → Of finish a → IsOfProgram processors a
    of_finish finishes.Ended p a h = subst (IsOfProgram processors) (sym h) tt
    of_finish (finishes.Trapped trap line) p a h = subst (IsOfProgram processors) (sym h) tt
    of_finish (finishes.OutOfRoom place) p a h = subst (IsOfProgram processors) (sym h) p
    of_finish (finishes.Broken place) p a h = subst (IsOfProgram processors) (sym h) p
    of_finish (finishes.OutOfTurns processor) p a h = absurd p
    of_finish finishes.Stopped p a h = absurd p
    of_finish finishes.Unset p a h = absurd p

    -- it isn't that turns are made
    pub not_spent : (finish : Finish) → IsProposed processors finish → (processor : ℕ) → Of finish (answers.OutOfTurns processor) → ⊥
    not_spent finishes.Ended p processor h = cc
    not_spent (finishes.Trapped trap line) p processor h = cc
    not_spent (finishes.OutOfRoom place) p processor h = cc
    not_spent (finishes.Broken place) p processor h = cc
    not_spent (finishes.OutOfTurns other) p processor h = absurd p
    not_spent finishes.Stopped p processor h = absurd p
    not_spent finishes.Unset p processor h = absurd p

    -- and it is that a pool is full only where the finish is
    pub room_finish : (finish : Finish) → IsProposed processors finish → (place : ℕ) → Of finish (answers.OutOfRoom place)
        → finish ≡ finishes.OutOfRoom place
    room_finish finishes.Ended p place h = cc
    room_finish (finishes.Trapped trap line) p place h = cc
    room_finish (finishes.OutOfRoom other) p place h = let same : other ≡ place = cc in ap (λ n. finishes.OutOfRoom n) same
    room_finish (finishes.Broken other) p place h = cc
    room_finish (finishes.OutOfTurns other) p place h = absurd p
    room_finish finishes.Stopped p place h = absurd p
    room_finish finishes.Unset p place h = absurd p

    -- what a proposed word says is of its finish
    pub proposed_of : (w : IsProposedWord processors word) (a : Answer) → IsSaid s lengths arrays words a → Of w.finish a
    proposed_of w a h =
        of_proposed answers.Ended answers.Trapped IsOutOfTurns HasNoEnd s lengths words arrays processors word w a h

  -- where it is that a processor has made its turns, the answer is
  pub spent_ending : (processor : ℕ) → finish_of word ≡ Some (finishes.OutOfTurns processor) → ending_of word ≡ With (finishes.OutOfTurns processor)
  spent_ending processor stands = ending_is word (finishes.OutOfTurns processor) stands (λ e. cc)

  pub spent_answer : (processor : ℕ) → finish_of word ≡ Some (finishes.OutOfTurns processor) → (a : Answer)
      → IsSaid s lengths arrays words a → a ≡ answers.OutOfTurns processor
  spent_answer processor stands a = subst (λ (e : Ending). At e a) (spent_ending processor stands)

-- what is said after turns of a machine whose finish word was 0, and has a cause in them
module _ (limits : Limits) (start : Situation) (unset : finish_in start ≡ 0) (turns : List Turn) (arrays : List NamedArray) where
  abbrev Said : Answer → Type 0
  Said a = IsSaid start.shape start.array_lengths arrays (words_behind start turns) a

  abbrev HasEnd : Type 0
  HasEnd = Finishes start.shape start.code limits start.state turns (finish_behind start turns)

  pub kind_said : HasEnd → (a : Answer) → Said a → IsOfProgram start.shape.processors a
  kind_said (Proposed w filled) a h =
      of_finish start.shape start.array_lengths (words_behind start turns) arrays start.shape.processors w.finish w.is_proposed a
      (proposed_of start.shape start.array_lengths (words_behind start turns) arrays start.shape.processors w a h)
  kind_said (Spent processor there stands made) a h =
      subst (IsOfProgram start.shape.processors)
      (sym (spent_answer start.shape start.array_lengths (words_behind start turns) arrays processor stands a h)) there
  kind_said (Stood same some) a h = absurd (some (same ∙ unset))

  -- that a processor has made its turns is said only where it has
  abbrev IsSpentOf : ℕ → Type 0
  IsSpentOf c = (c < start.shape.processors) × (work_made start.shape start.code c start.state turns ≡ limits.turns)

  pub spent_said : (processor : ℕ) → HasEnd → Said (answers.OutOfTurns processor) → IsSpentOf processor
  spent_said processor (Proposed w filled) h =
      absurd (not_spent start.shape start.array_lengths (words_behind start turns) arrays start.shape.processors w.finish w.is_proposed processor
      (proposed_of start.shape start.array_lengths (words_behind start turns) arrays start.shape.processors w (answers.OutOfTurns processor) h))
  spent_said processor (Spent other there stands made) h =
      let same : other ≡ processor = number (answers.OutOfTurns processor)
      (spent_answer start.shape start.array_lengths (words_behind start turns) arrays other stands (answers.OutOfTurns processor) h) refl in
      subst IsSpentOf same (there, made)
    where
      number : (a : Answer) → a ≡ answers.OutOfTurns other → a ≡ answers.OutOfTurns processor → other ≡ processor
      number a e f = cc
  spent_said processor (Stood same some) h = absurd (some (same ∙ unset))

  -- and that a pool is full only where a turn found it so
  filled_said : (place : ℕ) → HasEnd → Said (answers.OutOfRoom place) → IsFilledBehind start.shape start.code place start.state.words turns
  filled_said place (Proposed w filled) h =
      let is = room_finish start.shape start.array_lengths (words_behind start turns) arrays start.shape.processors w.finish w.is_proposed place
      (proposed_of start.shape start.array_lengths (words_behind start turns) arrays start.shape.processors w (answers.OutOfRoom place) h) in
      filled place (w.stands ∙ ap Some is)
  filled_said place (Spent other there stands made) h =
      absurd (different (spent_answer start.shape start.array_lengths (words_behind start turns) arrays other stands (answers.OutOfRoom place) h))
    where
      different : answers.OutOfRoom place ≡ answers.OutOfTurns other → ⊥
      different e = cc
  filled_said place (Stood same some) h = absurd (some (same ∙ unset))

  -- there is one
  pub some_said : HasEnd → (a : Answer) × Said a
  some_said (Proposed w filled) =
      some_of_proposed answers.Ended answers.Trapped IsOutOfTurns HasNoEnd start.shape start.array_lengths (words_behind start turns) arrays
      start.shape.processors (finish_behind start turns) w
  some_said (Spent processor there stands made) = (
    answers.OutOfTurns processor,
    subst (λ (e : Ending). At start.shape start.array_lengths (words_behind start turns) arrays e (answers.OutOfTurns processor))
        (sym (spent_ending start.shape start.array_lengths (words_behind start turns) arrays processor stands)) refl,
  )
  some_said (Stood same some) = absurd (some (same ∙ unset))

-- none is below 0
none_watched : (c : ℕ) → c < 0 → ⊥
none_watched c less = omega (arith, less)

module _ (options : RunOptions) (watching : ℕ) (before now : ToldLists) (items : List PlanItem) (code : CodeParts) (input : List NamedArray) where
  same_count : (a : Answer) (h : CodeHas options watching before now items code input a) → h.start.shape.processors ≡ options.processors
  same_count a h = opens_processors (sizes_of options) code input h.keeper h.start h.opens

  says_nothing : (a : Answer) (h : CodeHas options watching before now items code input a) → finish_in h.start ≡ 0
  says_nothing a h = unset_opened (sizes_of options) code input h.keeper h.start h.opens

  -- an answer of a code is of no other kind
  pub of_code : (a : Answer) → CodeHas options watching before now items code input a → IsOfProgram options.processors a
  of_code a h =
      subst (λ n. IsOfProgram n a) (same_count a h)
      (kind_said (limits_of options) h.start (says_nothing a h) h.run.turns input h.run.finished a h.run.says)

  pub spent_has : (c : ℕ) (h : CodeHas options watching before now items code input (answers.OutOfTurns c))
      → (c < options.processors) × (work_made h.start.shape h.start.code c h.start.state h.run.turns ≡ options.turns)
  spent_has c h =
      let s = spent_said (limits_of options) h.start (says_nothing (answers.OutOfTurns c) h) h.run.turns input c h.run.finished
      h.run.says in
      (subst (λ n. c < n) (same_count (answers.OutOfTurns c) h) s.0, s.1)

  pub filled_has : (place : ℕ) (h : CodeHas options watching before now items code input (answers.OutOfRoom place))
      → IsFilledBehind h.start.shape h.start.code place h.start.state.words h.run.turns
  filled_has place h =
      filled_said (limits_of options) h.start (says_nothing (answers.OutOfRoom place) h) h.run.turns input place h.run.finished h.run.says

  -- it is one whatever watchers were told
  pub untold : (start : Situation) (turns : List Turn) → AreTold 0 (plan_of options items) (limits_of options) [] [] start turns
  untold start turns = record { records = λ c less. absurd (none_watched c less); others = λ c least. stays (get_or [] c None) }

  pub forgets : (a : Answer) → CodeHas options watching before now items code input a → CodeHas options 0 [] [] items code input a
  forgets a h = record {
    keeper = h.keeper;
    spared = h.spared;
    start = h.start;
    opens = h.opens;
    run = record {
      turns = h.run.turns;
      obey = h.run.obey;
      finished = h.run.finished;
      told = untold h.start h.run.turns;
      says = h.run.says;
    };
  }

-- an answer of a program's run is of no other kind
pub of_program : (options : RunOptions) (watching : ℕ) (before now : ToldLists) (items : List PlanItem) (t : ProgramTree) (a : Answer)
    → ProgramHas options watching before now items t a → IsOfProgram options.processors a
of_program options watching before now items t = of_code options watching before now items (code_of t) (initial_arrays t)

-- an answer of a text is one whatever watchers were told, with a plan too
pub text_forgets : (options : RunOptions) (watching : ℕ) (before now : ToldLists) (items : List PlanItem) (text : List ℕ) (a : Answer)
    → TextHas options watching before now items text a → TextHas options 0 [] [] items text a
text_forgets options watching before now items text (answers.SourceRefused r) h = h
text_forgets options watching before now items text a h = (h.0, h.1, forgets options watching before now items (code_of h.0) (initial_arrays h.0) a h.2)

pub run_forgets : (options : RunOptions) (watching : ℕ) (before now : ToldLists) (plan : List ℕ) (text : List ℕ) (a : Answer)
    → PlannedHas plan_form plan options.processors (TextHas options watching before now) text a → RunHas options plan text a
run_forgets options watching before now plan text (answers.PlanRefused number) h = h
run_forgets options watching before now plan text a h = record {
  items = h.items;
  accepted = h.accepted;
  has = text_forgets options watching before now h.items text a h.has;
}

-- a plan for so many processors
pub same_plan : (options : RunOptions) (plan : Planned) → plan.processors ≡ options.processors → plan ≡ plan_of options plan.items
same_plan options plan same = λ i. record { processors = same i; items = plan.items }

-- some answer is that of a code, and it is what is said of the words after its run
module _ (options : RunOptions) (items : List PlanItem) (code : CodeParts) (input : List NamedArray) (before now : ToldLists) where
  some_run : (keeper : ℕ) (start : Situation) (turns : List Turn) → IsKeeper plan_form items keeper
      → OpensRun (sizes_of options) code input keeper start → IsCode code
      → ObeyAll (plan_of options items) (limits_of options) start.shape start.code start.state turns
      → AreTold options.processors (plan_of options items) (limits_of options) before now start turns
      → (a : Answer) × IsSaid start.shape start.array_lengths input (words_behind start turns) a
      × CodeHas options options.processors before now items code input a
  some_run keeper start turns spared opens is obey told =
      let finished = has_finished (sizes_of options) code input keeper (plan_of options items) (limits_of options) start turns
      opens is spared obey in
      let s = some_said (limits_of options) start (unset_opened (sizes_of options) code input keeper start opens) turns
      input finished in (
        s.0,
        s.1,
        record {
          keeper = keeper;
          spared = spared;
          start = start;
          opens = opens;
          run = record { turns = turns; obey = obey; finished = finished; told = told; says = s.1 };
        },
      )

-- a table has as many processors as the options say
pub table_processors : (options : RunOptions) (code : CodeParts) (input : List NamedArray) (sizes : Sizes) (keeper : ℕ) (shared : Shared) → sizes ≡ sizes_of options
    → OpensRun sizes code input keeper (opened_by shared) → shared.shape.processors ≡ options.processors
table_processors options code input sizes keeper shared are opens =
    ap (λ (s : Shape). s.processors) (sym shared.told.0)
    ∙ opens_processors sizes code input keeper (opened_by shared) opens ∙ ap (λ (z : Sizes). z.processors) are

-- what is said after the run of a table, and told of it
module _ {W : Type 0} (told : W → Option (List Event)) (options : RunOptions) (plan : Planned) (code : CodeParts) (input : List NamedArray) where
  abbrev ListsTold : Planned → Limits → Situation → List Turn → List W → List W → Type 0
  ListsTold p l m turns old new = AreTold options.processors p l (map told old) (map told new) m turns

  module _ (sizes : Sizes) (limits : Limits) (keeper : ℕ) (shared : Shared) (old new : List W) (w : W) (sizes_are : sizes ≡ sizes_of options)
      (limits_are : limits ≡ limits_of options) (same : plan.processors ≡ options.processors) (spared : IsKeeper plan_form plan.items keeper)
      (opens : OpensRun sizes code input keeper (opened_by shared)) (is : IsCode code)
      (many : length new ≡ length old) (enough : options.processors ≤ length old) where
    begins : OpensRun (sizes_of options) code input keeper (opened_by shared)
    begins = subst (λ (z : Sizes). OpensRun z code input keeper (opened_by shared)) sizes_are opens

    count : (opening_of shared).shape.processors ≡ options.processors
    count = opens_processors (sizes_of options) code input keeper (opened_by shared) begins

    -- of a run that was given up
    code_given_up : OthersStay (opening_of shared).shape.processors old new → WasRefused told plan limits (opening_of shared) old new
        → CodeGivenUp options (map told old) (map told new) plan.items code input
    code_given_up others r =
        let lists : RunGivenUp plan limits (opened_by shared) (map told old) (map told new) = record {
          in_part = lists_refused told plan limits (opening_of shared) old new w many (omega (arith, enough, count)) r;
          others = others_keep told (opening_of shared).shape.processors old new w many others;
        } in
        record {
          keeper = keeper;
          spared = spared;
          start = opened_by shared;
          opens = begins;
          run = subst (λ (p : Planned). RunGivenUp p (limits_of options) (opened_by shared) (map told old) (map told new)) (same_plan options plan same)
              (subst (λ (l : Limits). RunGivenUp plan l (opened_by shared) (map told old) (map told new)) limits_are lists);
        }

    -- where a drive met want of memory
    pub code_wanting : OthersStay (opening_of shared).shape.processors old new
        → (new ≡ old) ⊎ WasRefused told plan limits (opening_of shared) old new
        → CodeWants options options.processors (map told old) (map told new) plan.items code input
    code_wanting others (inl still) = ToldNothing (ap (λ (ws : List W). map told ws) still)
    code_wanting others (inr r) = ToldInPart (code_given_up others r)

    -- of a whole run
    module _ (words : List ℕ) (others : OthersStay (opening_of shared).shape.processors old new) (d : Driven told plan limits (opening_of shared) words old new) where
      code_some : (a : Answer)
          × IsSaid (opened_by shared).shape (opened_by shared).array_lengths input (words_behind (opened_by shared) d.turns) a
          × CodeHas options options.processors (map told old) (map told new) plan.items code input a
      code_some =
          let k = opening_of shared in
          let m = opened_by shared in
          let obey = subst (λ (p : Planned). ObeyAll p (limits_of options) m.shape m.code m.state d.turns) (same_plan options plan same)
          (subst (λ (l : Limits). ObeyAll plan l m.shape m.code m.state d.turns) limits_are d.obey) in
          let are = are_told told plan limits k words shared.lengths options.processors old new w many
          (omega (arith, enough, count)) (sym count) others d in
          let lists = subst (λ (p : Planned). ListsTold p (limits_of options) m d.turns old new) (same_plan options plan same)
          (subst (λ (l : Limits). ListsTold plan l m d.turns old new) limits_are are) in
          some_run options plan.items code input (map told old) (map told new) keeper m d.turns spared begins is obey lists

      -- where there was no memory for its answer
      pub code_whole : CodeWants options options.processors (map told old) (map told new) plan.items code input
      code_whole = ToldWhole (code_some.0, code_some.2)

      -- its answer is the one that is said of the words
      pub code_has : (closed : Closing) (arrays : List NamedArray) (a : Answer) → closed.words ≡ words
          → closed.shape ≡ (opening_of shared).shape → closed.array_lengths ≡ shared.lengths → arrays ≡ input
          → IsTheOne (IsSaid closed.shape closed.array_lengths arrays closed.words) a
          → CodeHas options options.processors (map told old) (map told new) plan.items code input a
      code_has closed arrays a words_are shape lengths arrays_are only =
          let m = opened_by shared in
          let said = subst (λ (l : List NamedArray). IsTheOne (IsSaid m.shape m.array_lengths l (words_behind m d.turns)) a) arrays_are
          (subst (λ (ws : List ℕ). IsTheOne (IsSaid m.shape m.array_lengths arrays ws) a) (words_are ∙ sym d.words_are)
          (subst (λ (n : List ℕ). IsTheOne (IsSaid m.shape n arrays closed.words) a) lengths
          (subst (λ (s : Shape). IsTheOne (IsSaid s closed.array_lengths arrays closed.words) a) shape only))) in
          subst (CodeHas options options.processors (map told old) (map told new) plan.items code input) (sym (said code_some.0 code_some.1)) code_some.2

-- an answer of a run is one of which watchers were told what its causes say
pub run_tells : (processors : ℕ) (T : Type 0) (a : Answer) (before now : ToldLists) → IsOfProgram processors a → OthersKeep processors before now
    → RunTold processors T a before now
run_tells processors T (answers.Ended arrays) before now h others = (tt, others, tt)
run_tells processors T (answers.Trapped t line) before now h others = (tt, others, tt)
run_tells processors T (answers.OutOfTurns processor) before now h others = (tt, others, tt)
run_tells processors T (answers.OutOfRoom place) before now h others = (tt, others, tt)
run_tells processors T (answers.Broken place) before now h others = (tt, others, tt)
run_tells processors T a before now h others = absurd h

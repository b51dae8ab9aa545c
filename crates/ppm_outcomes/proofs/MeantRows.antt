-- What rows say of runs and replays that end: they end as their programs do.
use Rattle.std.proofs.Common.{◌≡◌, ◌<◌, ◌≤◌, ◌+◌, ◌*◌, ◌^◌, ℕ, List, [], length, Some, refl, sym, ap, ◌∙◌, subst, arith}
use Rattle.std.proofs.lemmas.List.Elements.{recursion_from_All}
use Rattle.std.proofs.lemmas.Nat.{mul-le}
use Rattle.ppm_words.specs.declared.named_array.NamedArray.{NamedArray}
use Rattle.ppm_words.specs.declared.outcome.Outcome.TheVariants as outcome
use Rattle.ppm_words.specs.declared.trap.Trap.{Trap}
use Rattle.ppm_ports.specs.Outside.{ToldLists}
use Rattle.ppm_cells.specs.declared.finish.Finish.{Finish}
use Rattle.ppm_cells.specs.declared.finish.Finish.TheVariants as finishes
use Rattle.ppm_cells.specs.declared.shape.Shape.{Shape}
use Rattle.ppm_plan.specs.declared.plan_item.PlanItem.{PlanItem}
use Rattle.ppm_plan.specs.declared.schedule_item.ScheduleItem.{ScheduleItem}
use Rattle.ppm_plan.specs.Forms.{schedule_form}
use Rattle.ppm_plan.specs.Refusals.{IsAccepted}
use Rattle.ppm_tree.specs.Tree.{ProgramTree}
use Rattle.ppm_tree.specs.Program.{initial_arrays}
use Rattle.ppm_program.specs.Programs.{HasProgram}
use Rattle.ppm_cut_code.specs.Routines.{code_of}
use Rattle.ppm_step.specs.Among.{IsTurnAmong}
use Rattle.ppm_step.specs.State.{forks_of, takes_of, along}
use Rattle.ppm_step.specs.declared.turn.Turn.{Turn}
use Rattle.ppm_core.specs.Situation.{Situation, finish_in}
use Rattle.ppm_choice.specs.Deeds.{work_made}
use Rattle.ppm_choice.specs.Schedules.{schedule_turns}
use Rattle.ppm_answers.specs.declared.answer.Answer.{Answer}
use Rattle.ppm_answers.specs.declared.answer.Answer.TheVariants as answers
use Rattle.ppm_answers.specs.declared.tally.Tally.{Tally}
use Rattle.ppm_cli.specs.declared.run.RunOptions.{RunOptions}
use Rattle.ppm_cli.specs.declared.replay.ReplayOptions.{ReplayOptions}
use Rattle.ppm_cli.specs.Words.{AreReplayed, AreRun}
use Rattle.ppm_following.specs.Followed.{followed}
use Rattle.ppm_outcomes.specs.Meant.{NeedsMoreRoom, NeedsMoreTurns, forked_in, undone_in, NoneIsTakenTwice, EachIsTakenOnce, EndsAsProgram, IsAsProgram, RunsAreAsPrograms}
use Rattle.ppm_outcomes.specs.RunOf.{words_behind, finish_behind}
use Rattle.ppm_loading.specs.Says.{arrays_from, IsOfFinish}
use Rattle.ppm_outcomes.specs.Runs as runs
use Rattle.ppm_outcomes.specs.Replays as replays
use Rattle.ppm_outcomes.specs.Replays.{tally_of}
use Rattle.ppm_loading.proofs.LoadingLemmas.{opens_processors, opens_room}
use Rattle.ppm_loading.proofs.SayLemmas.{said_of_word}
use Rattle.ppm_following.proofs.ScheduledLemmas.{scheduled_among}
use Rattle.ppm_outcomes.proofs.TakenLemmas.{count_forked, count_taken}
use Rattle.ppm_outcomes.proofs.WorkLemmas.{of_all, obeyed_work, scheduled_work}

-- which finish the answers of runs that end are of
module _ (s : Shape) (lengths words : List ℕ) (input : List NamedArray) where
  abbrev OfRun : Finish → Answer → Type 0
  OfRun finish a =
      IsOfFinish s lengths words answers.Ended answers.Trapped (λ processor x. x ≡ answers.OutOfTurns processor) (λ x. ⊥) input finish a

  abbrev read_off : List NamedArray
  read_off = arrays_from s lengths words 0 input

  pub ended_run : (finish : Finish) (arrays : List NamedArray) → OfRun finish (answers.Ended arrays)
      → (finish ≡ finishes.Ended) × (arrays ≡ read_off)
  ended_run finishes.Ended arrays h = let same : arrays ≡ read_off = cc in (refl, same)
  ended_run (finishes.Trapped trap line) arrays h = absurd (let no : ⊥ = cc in no)
  ended_run (finishes.OutOfRoom place) arrays h = absurd (let no : ⊥ = cc in no)
  ended_run (finishes.Broken place) arrays h = absurd (let no : ⊥ = cc in no)
  ended_run (finishes.OutOfTurns processor) arrays h = absurd (let no : ⊥ = cc in no)
  ended_run finishes.Stopped arrays h = absurd h
  ended_run finishes.Unset arrays h = absurd h

  pub trapped_run : (finish : Finish) (trap : Trap) (line : ℕ) → OfRun finish (answers.Trapped trap line) → finish ≡ finishes.Trapped trap line
  trapped_run finishes.Ended trap line h = cc
  trapped_run (finishes.Trapped other at) trap line h = cc
  trapped_run (finishes.OutOfRoom place) trap line h = cc
  trapped_run (finishes.Broken place) trap line h = cc
  trapped_run (finishes.OutOfTurns processor) trap line h = cc
  trapped_run finishes.Stopped trap line h = absurd h
  trapped_run finishes.Unset trap line h = absurd h

  pub full_run : (finish : Finish) (place : ℕ) → OfRun finish (answers.OutOfRoom place) → finish ≡ finishes.OutOfRoom place
  full_run finishes.Ended place h = cc
  full_run (finishes.Trapped trap line) place h = cc
  full_run (finishes.OutOfRoom other) place h = cc
  full_run (finishes.Broken other) place h = cc
  full_run (finishes.OutOfTurns processor) place h = cc
  full_run finishes.Stopped place h = absurd h
  full_run finishes.Unset place h = absurd h

  pub broken_run : (finish : Finish) (place : ℕ) → OfRun finish (answers.Broken place) → finish ≡ finishes.Broken place
  broken_run finishes.Ended place h = cc
  broken_run (finishes.Trapped trap line) place h = cc
  broken_run (finishes.OutOfRoom other) place h = cc
  broken_run (finishes.Broken other) place h = cc
  broken_run (finishes.OutOfTurns processor) place h = cc
  broken_run finishes.Stopped place h = absurd h
  broken_run finishes.Unset place h = absurd h

  -- and those of replays, with what they count
  module _ (turns : ℕ) (counts : Tally) where
    abbrev OfReplay : Finish → Answer → Type 0
    OfReplay finish a =
        IsOfFinish s lengths words (λ values. answers.EndedWith values counts) (λ trap line. answers.TrappedWith trap line counts)
        (λ processor x. ⊥) (λ x. x ≡ answers.Unfinished turns) input finish a

    pub ended_replay : (finish : Finish) (arrays : List NamedArray) (tally : Tally) → OfReplay finish (answers.EndedWith arrays tally)
        → (finish ≡ finishes.Ended) × (arrays ≡ read_off) × (tally ≡ counts)
    ended_replay finishes.Ended arrays tally h =
        let same : arrays ≡ read_off = cc in let also : tally ≡ counts = cc in (refl, same, also)
    ended_replay (finishes.Trapped trap line) arrays tally h = absurd (let no : ⊥ = cc in no)
    ended_replay (finishes.OutOfRoom place) arrays tally h = absurd (let no : ⊥ = cc in no)
    ended_replay (finishes.Broken place) arrays tally h = absurd (let no : ⊥ = cc in no)
    ended_replay (finishes.OutOfTurns processor) arrays tally h = absurd h
    ended_replay finishes.Stopped arrays tally h = absurd h
    ended_replay finishes.Unset arrays tally h = absurd h

    pub trapped_replay : (finish : Finish) (trap : Trap) (line : ℕ) (tally : Tally) → OfReplay finish (answers.TrappedWith trap line tally)
        → (finish ≡ finishes.Trapped trap line) × (tally ≡ counts)
    trapped_replay finishes.Ended trap line tally h = absurd (let no : ⊥ = cc in no)
    trapped_replay (finishes.Trapped other at) trap line tally h =
        let same : finishes.Trapped other at ≡ finishes.Trapped trap line = cc in let also : tally ≡ counts = cc in (same, also)
    trapped_replay (finishes.OutOfRoom place) trap line tally h = absurd (let no : ⊥ = cc in no)
    trapped_replay (finishes.Broken place) trap line tally h = absurd (let no : ⊥ = cc in no)
    trapped_replay (finishes.OutOfTurns processor) trap line tally h = absurd h
    trapped_replay finishes.Stopped trap line tally h = absurd h
    trapped_replay finishes.Unset trap line tally h = absurd h

    pub full_replay : (finish : Finish) (place : ℕ) → OfReplay finish (answers.OutOfRoom place) → finish ≡ finishes.OutOfRoom place
    full_replay finishes.Ended place h = cc
    full_replay (finishes.Trapped trap line) place h = cc
    full_replay (finishes.OutOfRoom other) place h = cc
    full_replay (finishes.Broken other) place h = cc
    full_replay (finishes.OutOfTurns processor) place h = absurd h
    full_replay finishes.Stopped place h = absurd h
    full_replay finishes.Unset place h = absurd h

    pub broken_replay : (finish : Finish) (place : ℕ) → OfReplay finish (answers.Broken place) → finish ≡ finishes.Broken place
    broken_replay finishes.Ended place h = cc
    broken_replay (finishes.Trapped trap line) place h = cc
    broken_replay (finishes.OutOfRoom other) place h = cc
    broken_replay (finishes.Broken other) place h = cc
    broken_replay (finishes.OutOfTurns processor) place h = absurd h
    broken_replay finishes.Stopped place h = absurd h
    broken_replay finishes.Unset place h = absurd h

pub no_other : (turns : ℕ) (arrays : List NamedArray) (tally : Tally) → answers.EndedWith arrays tally ≡ answers.Unfinished turns → ⊥
no_other turns arrays tally e = cc

pub no_other_trap : (turns : ℕ) (trap : Trap) (line : ℕ) (tally : Tally) → answers.TrappedWith trap line tally ≡ answers.Unfinished turns → ⊥
no_other_trap turns trap line tally e = cc

pub no_other_broken : (turns place : ℕ) → answers.Broken place ≡ answers.Unfinished turns → ⊥
no_other_broken turns place e = cc

pub no_other_room : (turns place : ℕ) → answers.OutOfRoom place ≡ answers.Unfinished turns → ⊥
no_other_room turns place e = cc

pub past_most : {some most : ℕ} → 2 ^ 34 < some → some ≤ most → most ≤ 2 ^ 34 → ⊥
past_most many few most = omega (arith, many, few, most)

-- in their ranges so many processors make no more work turns of all than tags can count
pub few_turns : (processors turns : ℕ) → processors ≤ 64 → turns ≤ 268435456 → processors * turns ≤ 2 ^ 34
few_turns processors turns few most = let all = mul-le processors turns 64 268435456 few most in omega (arith, all)

-- a replay counts the forks and the takes that its turns make
pub tallied : (items : List ScheduleItem) (turns : ℕ) (m : Situation) → m.forks ≡ 0 → m.takes ≡ 0
    → EachIsTakenOnce m (schedule_turns m.shape m.code m.state items turns) → (tally : Tally) → tally ≡ tally_of (followed m items turns)
    → (tally.forks ≡ length (forked_in m (schedule_turns m.shape m.code m.state items turns))) × (tally.forks ≡ tally.takes)
tallied items turns m none no_takes each tally e =
    let made = schedule_turns m.shape m.code m.state items turns in
    let forks = count_forked m.shape m.code m.state [] made in
    let takes = count_taken m.shape m.code m.state [] made in
    let f : tally.forks ≡ m.forks + length (along m.shape m.code forks_of m.state made) = ap (λ (k : Tally). k.forks) e in
    let g : tally.takes ≡ m.takes + length (along m.shape m.code takes_of m.state made) = ap (λ (k : Tally). k.takes) e in
    (omega (arith, forks, f, none), omega (arith, forks, takes, f, g, none, no_takes, each.alike))

module _ (law : RunsAreAsPrograms) (text : List ℕ) (t : ProgramTree) (has : HasProgram text t) where
  -- of `run`
  module _ (options : RunOptions) (watching : ℕ) (before now : ToldLists) (items : List PlanItem) where
    abbrev Has : Answer → Type 0
    Has a = runs.ProgramHas options watching before now items t a

    pub run_is : (a : Answer) (h : Has a) → IsAsProgram h.start h.run.turns t
    run_is a h =
        law text t has (runs.sizes_of options) h.keeper h.start h.opens h.run.turns
        (recursion_from_All (IsTurnAmong h.start.shape.processors) h.run.turns h.run.obey.among)

    pub run_ends : (arrays : List NamedArray) (h : Has (answers.Ended arrays)) → EndsAsProgram h.start h.run.turns t (outcome.Ended arrays)
    run_ends arrays h =
        let w = words_behind h.start h.run.turns in
        let k = said_of_word answers.Ended answers.Trapped (λ processor x. x ≡ answers.OutOfTurns processor) (λ x. ⊥) h.start.shape
        h.start.array_lengths w (initial_arrays t) (finish_behind h.start h.run.turns) (answers.Ended arrays) (λ none. none) h.run.says in
        let e = ended_run h.start.shape h.start.array_lengths w (initial_arrays t) k.0 arrays k.2 in
        subst (λ (l : List NamedArray). EndsAsProgram h.start h.run.turns t (outcome.Ended l)) (sym e.1)
        ((run_is (answers.Ended arrays) h).ended (k.1 ∙ ap (λ (f : Finish). Some f) e.0))

    pub run_traps : (trap : Trap) (line : ℕ) (h : Has (answers.Trapped trap line))
        → EndsAsProgram h.start h.run.turns t (outcome.Trapped trap line)
    run_traps trap line h =
        let w = words_behind h.start h.run.turns in
        let k = said_of_word answers.Ended answers.Trapped (λ processor x. x ≡ answers.OutOfTurns processor) (λ x. ⊥) h.start.shape
        h.start.array_lengths w (initial_arrays t) (finish_behind h.start h.run.turns) (answers.Trapped trap line) (λ none. none) h.run.says in
        let e = trapped_run h.start.shape h.start.array_lengths w (initial_arrays t) k.0 trap line k.2 in
        (run_is (answers.Trapped trap line) h).trapped trap line (k.1 ∙ ap (λ (f : Finish). Some f) e)

    pub run_needs : (place : ℕ) (h : Has (answers.OutOfRoom place)) → NeedsMoreRoom t options.room
    run_needs place h =
        let w = words_behind h.start h.run.turns in
        let k = said_of_word answers.Ended answers.Trapped (λ processor x. x ≡ answers.OutOfTurns processor) (λ x. ⊥) h.start.shape
        h.start.array_lengths w (initial_arrays t) (finish_behind h.start h.run.turns) (answers.OutOfRoom place) (λ none. none) h.run.says in
        let e = full_run h.start.shape h.start.array_lengths w (initial_arrays t) k.0 place k.2 in
        subst (NeedsMoreRoom t) (opens_room (runs.sizes_of options) (code_of t) (initial_arrays t) h.keeper h.start h.opens)
        ((run_is (answers.OutOfRoom place) h).full place (k.1 ∙ ap (λ (f : Finish). Some f) e)).1

    -- with options in their ranges it is never that words are broken
    pub run_unbroken : AreRun options → (place : ℕ) → Has (answers.Broken place) → ⊥
    run_unbroken are place h =
        let w = words_behind h.start h.run.turns in
        let k = said_of_word answers.Ended answers.Trapped (λ processor x. x ≡ answers.OutOfTurns processor) (λ x. ⊥) h.start.shape
        h.start.array_lengths w (initial_arrays t) (finish_behind h.start h.run.turns) (answers.Broken place) (λ none. none) h.run.says in
        let e = broken_run h.start.shape h.start.array_lengths w (initial_arrays t) k.0 place k.2 in
        let many = (run_is (answers.Broken place) h).unbroken place (k.1 ∙ ap (λ (f : Finish). Some f) e) in
        let most = obeyed_work h.start.shape h.start.code (runs.plan_of options items) (runs.limits_of options) h.start.state h.run.turns h.run.obey
        (recursion_from_All (IsTurnAmong h.start.shape.processors) h.run.turns h.run.obey.among) in
        let count = opens_processors (runs.sizes_of options) (code_of t) (initial_arrays t) h.keeper h.start h.opens in
        past_most many most (subst (λ (n : ℕ). n * options.turns ≤ 2 ^ 34) (sym count) (few_turns options.processors options.turns are.0.1 are.1.1))

    -- what one processor made of its turns is within the work of all
    pub run_needs_turns : (c : ℕ) (h : Has (answers.OutOfTurns c))
        → work_made h.start.shape h.start.code c h.start.state h.run.turns ≡ options.turns
        → NeedsMoreTurns t (undone_in h.start h.run.turns) options.turns
    run_needs_turns c h made e comes =
        let within = (run_is (answers.OutOfTurns c) h).work e comes in
        let mine = of_all h.start.shape h.start.code c h.start.state h.run.turns in
        omega (arith, within, mine, made)

    pub run_once : (a : Answer) (h : Has a) → NoneIsTakenTwice h.start h.run.turns
    run_once a h = (run_is a h).once

  -- of `replay`, whose schedule is accepted
  module _ (options : ReplayOptions) (schedule : List ℕ) (items : List ScheduleItem)
      (accepted : IsAccepted schedule_form schedule options.processors items) where
    abbrev HasReplay : Answer → Type 0
    HasReplay a = replays.ProgramHas options items t a

    abbrev turns_in : Situation → List Turn
    turns_in m = schedule_turns m.shape m.code m.state items options.turns

    pub replay_is : (a : Answer) (h : HasReplay a) → IsAsProgram h.start (turns_in h.start) t
    replay_is a h =
        law text t has (replays.sizes_of options) h.keeper h.start h.opens (turns_in h.start)
        (scheduled_among h.start.shape h.start.code (some h) schedule options.processors items (count h) accepted h.start.state options.turns)
      where
        count : (h : HasReplay a) → h.start.shape.processors ≡ options.processors
        count h = opens_processors (replays.sizes_of options) (code_of t) (initial_arrays t) h.keeper h.start h.opens

        some : (h : HasReplay a) → 0 < h.start.shape.processors
        some h = let least = h.start.shape.within.processors_least in omega (arith, least)

    abbrev last : Situation → Situation
    last m = followed m items options.turns

    pub replay_ends : (arrays : List NamedArray) (tally : Tally) (h : HasReplay (answers.EndedWith arrays tally))
        → EndsAsProgram h.start (turns_in h.start) t (outcome.Ended arrays) × (tally.forks ≡ length (forked_in h.start (turns_in h.start))) × (tally.forks ≡ tally.takes)
    replay_ends arrays tally h =
        let m = last h.start in
        let k = said_of_word (λ values. answers.EndedWith values (tally_of m)) (λ trap line. answers.TrappedWith trap line (tally_of m))
        (λ processor x. ⊥) (λ x. x ≡ answers.Unfinished options.turns) m.shape m.array_lengths m.state.words (initial_arrays t) (finish_in m)
        (answers.EndedWith arrays tally) (no_other options.turns arrays tally) h.says in
        let e = ended_replay m.shape m.array_lengths m.state.words (initial_arrays t) options.turns (tally_of m) k.0 arrays tally k.2 in
        let ends = (replay_is (answers.EndedWith arrays tally) h).ended (k.1 ∙ ap (λ (f : Finish). Some f) e.0) in
        let counts =
        tallied items options.turns h.start (ap (λ (x : Situation). x.forks) h.opens.loads) (ap (λ (x : Situation). x.takes) h.opens.loads) ends.branches tally e.2 in (
          subst (λ (l : List NamedArray). EndsAsProgram h.start (turns_in h.start) t (outcome.Ended l)) (sym e.1) ends,
          counts.0,
          counts.1,
        )

    pub replay_traps : (trap : Trap) (line : ℕ) (tally : Tally) (h : HasReplay (answers.TrappedWith trap line tally))
        → EndsAsProgram h.start (turns_in h.start) t (outcome.Trapped trap line) × (tally.forks ≡ length (forked_in h.start (turns_in h.start))) × (tally.forks ≡ tally.takes)
    replay_traps trap line tally h =
        let m = last h.start in
        let k = said_of_word (λ values. answers.EndedWith values (tally_of m)) (λ x n. answers.TrappedWith x n (tally_of m))
        (λ processor x. ⊥) (λ x. x ≡ answers.Unfinished options.turns) m.shape m.array_lengths m.state.words (initial_arrays t) (finish_in m)
        (answers.TrappedWith trap line tally) (no_other_trap options.turns trap line tally) h.says in
        let e = trapped_replay m.shape m.array_lengths m.state.words (initial_arrays t) options.turns (tally_of m) k.0 trap line tally k.2 in
        let ends = (replay_is (answers.TrappedWith trap line tally) h).trapped trap line (k.1 ∙ ap (λ (f : Finish). Some f) e.0) in
        let counts =
        tallied items options.turns h.start (ap (λ (x : Situation). x.forks) h.opens.loads) (ap (λ (x : Situation). x.takes) h.opens.loads) ends.branches tally e.1 in
        (ends, counts.0, counts.1)

    pub replay_needs : (place : ℕ) (h : HasReplay (answers.OutOfRoom place)) → NeedsMoreRoom t options.room
    replay_needs place h =
        let m = last h.start in
        let k = said_of_word (λ values. answers.EndedWith values (tally_of m)) (λ x n. answers.TrappedWith x n (tally_of m))
        (λ processor x. ⊥) (λ x. x ≡ answers.Unfinished options.turns) m.shape m.array_lengths m.state.words (initial_arrays t) (finish_in m)
        (answers.OutOfRoom place) (no_other_room options.turns place) h.says in
        let e = full_replay m.shape m.array_lengths m.state.words (initial_arrays t) options.turns (tally_of m) k.0 place k.2 in
        subst (NeedsMoreRoom t) (opens_room (replays.sizes_of options) (code_of t) (initial_arrays t) h.keeper h.start h.opens)
        ((replay_is (answers.OutOfRoom place) h).full place (k.1 ∙ ap (λ (f : Finish). Some f) e)).1

    pub replay_unbroken : AreReplayed options → (place : ℕ) → HasReplay (answers.Broken place) → ⊥
    replay_unbroken are place h =
        let m = last h.start in
        let k = said_of_word (λ values. answers.EndedWith values (tally_of m)) (λ trap line. answers.TrappedWith trap line (tally_of m))
        (λ processor x. ⊥) (λ x. x ≡ answers.Unfinished options.turns) m.shape m.array_lengths m.state.words (initial_arrays t) (finish_in m)
        (answers.Broken place) (no_other_broken options.turns place) h.says in
        let e = broken_replay m.shape m.array_lengths m.state.words (initial_arrays t) options.turns (tally_of m) k.0 place k.2 in
        let many = (replay_is (answers.Broken place) h).unbroken place (k.1 ∙ ap (λ (f : Finish). Some f) e) in
        past_most many (scheduled_work h.start.shape h.start.code h.start.state items options.turns) (let few = are.1.1 in omega (arith, few))

    pub replay_once : (a : Answer) (h : HasReplay a) → NoneIsTakenTwice h.start (turns_in h.start)
    replay_once a h = (replay_is a h).once

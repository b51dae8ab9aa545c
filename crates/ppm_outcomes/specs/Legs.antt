-- What runs in legs of a program's machine come to, in the words of the program's serial meaning: turns, the words after them that came back,
-- turns of fresh processors, and so on.
use Rattle.std.specs.Prelude.{◌≡◌, ◌≢◌, ◌≤◌, ◌<◌, ℕ, ◌+◌, ◌*◌, ◌^◌, List, [], ◌∷◌, Some, None, length}
use Rattle.std.specs.List.{AllByRecursion}
use Rattle.ppm_strands.specs.Run.{End as CapsuleEnd}
use Rattle.ppm_words.specs.declared.outcome.Outcome.{Outcome}
use Rattle.ppm_words.specs.declared.outcome.Outcome.TheVariants as outcome
use Rattle.ppm_words.specs.declared.trap.Trap.{Trap}
use Rattle.ppm_cells.specs.Cells.{pool_at}
use Rattle.ppm_cells.specs.Finish.{finish_of}
use Rattle.ppm_cells.specs.Memory.{read}
use Rattle.ppm_cells.specs.declared.cell.Cell.TheVariants.{FinishWord, RoomCounter}
use Rattle.ppm_cells.specs.declared.finish.Finish.TheVariants as finishes
use Rattle.ppm_cells.specs.declared.shape.Takeover.TheVariants.{ByPlaces}
use Rattle.ppm_code.specs.Strands.{Result}
use Rattle.ppm_depth.specs.Run.{ComesTo, pool_words}
use Rattle.ppm_tree.specs.Tree.{ProgramTree}
use Rattle.ppm_tree.specs.Program.{initial_arrays}
use Rattle.ppm_program.specs.Programs.{HasProgram}
use Rattle.ppm_cut_code.specs.Routines.{code_of}
use Rattle.ppm_step.specs.Among.{IsTurnAmong}
use Rattle.ppm_step.specs.declared.turn.Turn.{Turn}
use Rattle.ppm_tickets.specs.Words.{has}
use Rattle.ppm_runs.specs.Legs.{Leg, AreLegs, last_state, all_forked, all_taken, all_work, all_strikes}
use Rattle.ppm_runs.specs.Moments.{AreOnce}
use Rattle.ppm_resumed.specs.Resumed.{TagsMayRise}
use Rattle.ppm_core.specs.Situation.{Situation}
use Rattle.ppm_loading.specs.Loading.{OpensRun}
use Rattle.ppm_loading.specs.Says.{arrays_from}
use Rattle.ppm_loading.specs.declared.loading.Sizes.{Sizes}
use Rattle.ppm_outcomes.specs.Meant.{HasOutcome, EndsDepthFirst, NeedsMoreRoom, NeedsMoreTurns, faults_in}

-- how many turns of legs are faults
abbrev pub faults_then : List Leg → ℕ
faults_then [] = 0
faults_then (leg ∷ legs) = faults_then legs + faults_in leg.turns

-- the legs of a run from a machine, the latest first, and the turns after them
module _ (m : Situation) (legs : List Leg) (turns : List Turn) where
  -- the words after all of them, and the finish word
  abbrev pub words_at_last : List ℕ
  words_at_last = (last_state m.shape m.code m.state.words legs turns).words

  abbrev pub finish_at_last : ℕ
  finish_at_last = read m.shape words_at_last FinishWord

  -- the blocks whose right branches were forked in all of them, and those whose right branches were taken, newest first
  abbrev pub forked_in_all : List ℕ
  forked_in_all = all_forked m.shape m.code m.state.words legs turns

  abbrev pub taken_in_all : List ℕ
  taken_in_all = all_taken m.shape m.code m.state.words legs turns

  -- the work turns of all of them
  abbrev pub worked_in_all : ℕ
  worked_in_all = all_work m.shape m.code m.state.words legs turns

  -- how many turns of all of them are faults, and how many faults struck a row of work
  abbrev pub faults_in_all : ℕ
  faults_in_all = faults_then legs + faults_in turns

  abbrev pub struck_in_all : ℕ
  struck_in_all = all_strikes m.shape m.code m.state.words legs turns

  -- how many rows of work were lost, to begin again: by each of these faults one, and one of each place whenever fresh processors came
  abbrev pub lost_in_all : ℕ
  lost_in_all = struck_in_all + m.shape.processors * length legs

  -- over all of them no right branch is forked twice, none is taken twice, and each that is taken was forked
  abbrev pub NoneIsTakenTwiceInAll : Type 0
  NoneIsTakenTwiceInAll = AreOnce forked_in_all taken_in_all

  -- this holds, and each that is forked is taken
  pub record EachIsTakenOnceInAll : Type 0 where
    pub once : NoneIsTakenTwiceInAll
    pub all : (block : ℕ) → has forked_in_all block ≡ has taken_in_all block
    pub alike : length forked_in_all ≡ length taken_in_all

  -- such a run ends as the program does: with its serial outcome, and that of its code, run depth first; with each branch that was forked taken
  -- once, and as many of them as forks that this code makes
  pub record EndsAsProgramInAll (t : ProgramTree) (o : Outcome) : Type 0 where
    pub serially : HasOutcome t o
    pub depth_first : EndsDepthFirst t o
    pub branches : EachIsTakenOnceInAll
    pub forks : (e : CapsuleEnd Result) → ComesTo (code_of t) (initial_arrays t) e → length forked_in_all ≡ e.counts.forks

  -- What holds after them. No branch is taken twice. Where the finish word says an outcome the run ends as the program does, with the arrays
  -- of the words then, or this trap; where it says that a pool is full, it is that of a place, and the program takes more words. All work turns
  -- are fewer than 256 for each capsule that the program's code runs depth first, if that run ends, each fault that strikes a row of work, and each
  -- fresh processor; no more faults strike one than turns are faults. No place has given out more of its pool than that run takes. The finish word
  -- stands for a finish; that words are broken it says only after more than 2^34 + 2^28 work turns, where words came back at most 2^50 times.
  pub record IsAsProgramInAll (t : ProgramTree) : Type 0 where
    pub once : NoneIsTakenTwiceInAll
    pub ended : finish_of finish_at_last ≡ Some finishes.Ended
        → EndsAsProgramInAll t (outcome.Ended (arrays_from m.shape m.array_lengths words_at_last 0 (initial_arrays t)))
    pub trapped : (trap : Trap) (line : ℕ) → finish_of finish_at_last ≡ Some (finishes.Trapped trap line)
        → EndsAsProgramInAll t (outcome.Trapped trap line)
    pub work : NeedsMoreTurns t lost_in_all worked_in_all
    pub few : struck_in_all ≤ faults_in_all
    pub full : (place : ℕ) → finish_of finish_at_last ≡ Some (finishes.OutOfRoom place)
        → (place < m.shape.processors) × NeedsMoreRoom t m.shape.room
    pub pools : (e : CapsuleEnd Result) → ComesTo (code_of t) (initial_arrays t) e → (place : ℕ) → place < m.shape.processors
        → read m.shape words_at_last (RoomCounter place) ≤ pool_at m.shape place + pool_words (code_of t) e.counts
    pub stands : finish_of finish_at_last ≢ None
    pub unbroken : length legs ≤ 2 ^ 50 → (place : ℕ) → finish_of finish_at_last ≡ Some (finishes.Broken place)
        → 2 ^ 34 + 2 ^ 28 < worked_in_all

-- With takeover by places, from the machine with which a run of a text's program begins, however often its words came back, and whatever the
-- turns are, in whatever order, faults and quits among them. A run in which no words came back has no legs.
abbrev pub RunsInLegsAreAsPrograms : Type 0
RunsInLegsAreAsPrograms = (text : List ℕ) (t : ProgramTree) → HasProgram text t → (sizes : Sizes) → sizes.takeover ≡ ByPlaces
    → (keeper : ℕ) (m : Situation) → OpensRun sizes (code_of t) (initial_arrays t) keeper m
    → (legs : List Leg) → AreLegs m.shape m.code m.state.words legs
    → (turns : List Turn) → AllByRecursion (IsTurnAmong m.shape.processors) turns → IsAsProgramInAll m legs turns t

-- and then no place's holder has the last tag, where words came back fewer than 2^50 times
abbrev pub TagsMayRiseInLegs : Type 0
TagsMayRiseInLegs = (text : List ℕ) (t : ProgramTree) → HasProgram text t → (sizes : Sizes) → sizes.takeover ≡ ByPlaces
    → (keeper : ℕ) (m : Situation) → OpensRun sizes (code_of t) (initial_arrays t) keeper m
    → (legs : List Leg) → AreLegs m.shape m.code m.state.words legs
    → (turns : List Turn) → AllByRecursion (IsTurnAmong m.shape.processors) turns
    → length legs < 2 ^ 50 → TagsMayRise m.shape (words_at_last m legs turns)

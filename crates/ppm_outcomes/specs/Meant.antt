-- What runs of a program's machine come to, in the words of the program's serial meaning.
use Rattle.std.specs.Prelude.{◌≡◌, ◌<◌, ◌≤◌, ℕ, ◌+◌, ◌*◌, ◌^◌, ℤ, Bool, true, false, List, [], ◌∷◌, Some, length}
use Rattle.std.specs.List.{AllByRecursion}
use Rattle.ppm_strands.specs.Run.{End as CapsuleEnd}
use Rattle.ppm_words.specs.declared.outcome.Outcome.{Outcome}
use Rattle.ppm_words.specs.declared.outcome.Outcome.TheVariants as outcome
use Rattle.ppm_words.specs.declared.trap.Trap.{Trap}
use Rattle.ppm_cells.specs.Cells.{pool_at}
use Rattle.ppm_cells.specs.Finish.{finish_of}
use Rattle.ppm_cells.specs.Memory.{read}
use Rattle.ppm_cells.specs.declared.cell.Cell.TheVariants.{RoomCounter}
use Rattle.ppm_cells.specs.declared.finish.Finish.TheVariants as finishes
use Rattle.ppm_code.specs.Strands.{Result}
use Rattle.ppm_depth.specs.Run.{ComesTo, pool_words, said_of}
use Rattle.ppm_tree.specs.Tree.{ProgramTree}
use Rattle.ppm_tree.specs.Meaning.{Whole, Counts, End}
use Rattle.ppm_tree.specs.Program.{initial_arrays, values_of, Means, Serial}
use Rattle.ppm_program.specs.Programs.{HasProgram}
use Rattle.ppm_cut_code.specs.Routines.{code_of}
use Rattle.ppm_cut_correct.specs.Correct.{words_taken}
use Rattle.ppm_step.specs.Among.{IsTurnAmong}
use Rattle.ppm_step.specs.declared.turn.Act.{Act}
use Rattle.ppm_step.specs.declared.turn.Act.TheVariants.{Soft, Hard}
use Rattle.ppm_step.specs.declared.turn.Turn.{Turn}
use Rattle.ppm_runs.specs.Deques.{one_if}
use Rattle.ppm_runs.specs.Work.{work_in, strikes_in, undone_in as undone_among}
use Rattle.ppm_tickets.specs.Along.{forked, taken}
use Rattle.ppm_tickets.specs.Words.{has}
use Rattle.ppm_runs.specs.Moments.{AreOnce}
use Rattle.ppm_core.specs.Situation.{Situation}
use Rattle.ppm_loading.specs.declared.loading.Sizes.{Sizes}
use Rattle.ppm_loading.specs.Loading.{OpensRun}
use Rattle.ppm_outcomes.specs.RunOf.{words_behind, finish_behind}
use Rattle.ppm_loading.specs.Says.{arrays_from}

-- within some number of turns this is the program's serial outcome
abbrev pub HasOutcome : ProgramTree → Outcome → Type 0
HasOutcome t o = (within : ℕ) × Serial t within o

-- the code of the program, run depth first, comes to an end, and that is this outcome
abbrev pub EndsDepthFirst : ProgramTree → Outcome → Type 0
EndsDepthFirst t o = (e : CapsuleEnd Result) × ComesTo (code_of t) (initial_arrays t) e × (said_of (initial_arrays t) e.words e.outcome ≡ o)

-- A pool of so many words is too small for the program: its code, run depth first, has no end, or takes more of them; and so does the program, both
-- branches of each fork run whole. It takes the frame of `main`, and those that its calls, its forks and each `each` ask for. Each pool of a machine
-- has as many words as its room.
pub record NeedsMoreRoom (t : ProgramTree) (room : ℕ) : Type 0 where
  pub depth_first : (e : CapsuleEnd Result) → ComesTo (code_of t) (initial_arrays t) e → room < pool_words (code_of t) e.counts
  pub whole : (k : Counts) (z : End ℤ) → Means Whole t (values_of (initial_arrays t)) k z → room < words_taken t k

-- The code of the program, run depth first, has no end, or so many turns are fewer than 256 for each of its capsules and each of so many faults.
abbrev pub NeedsMoreTurns : ProgramTree → (faults limit : ℕ) → Type 0
NeedsMoreTurns t faults limit = (e : CapsuleEnd Result) → ComesTo (code_of t) (initial_arrays t) e → limit < 256 * (e.counts.capsules + faults)

-- how many turns are faults, soft and hard ones
abbrev pub is_fault : Act → Bool
is_fault Soft = true
is_fault Hard = true
is_fault act = false

abbrev pub faults_in : List Turn → ℕ
faults_in [] = 0
faults_in (turn ∷ turns) = one_if (is_fault turn.act) + faults_in turns

module _ (m : Situation) (turns : List Turn) where
  -- the blocks whose right branches are forked in these turns of a machine, and those whose right branches are taken, newest first
  abbrev pub forked_in : List ℕ
  forked_in = forked m.shape m.code m.state [] turns

  abbrev pub taken_in : List ℕ
  taken_in = taken m.shape m.code m.state [] turns

  -- no right branch is forked twice, none is taken twice, and each that is taken was forked
  abbrev pub NoneIsTakenTwice : Type 0
  NoneIsTakenTwice = AreOnce forked_in taken_in

  -- this holds, and each that is forked is taken: there are as many takes as forks
  pub record EachIsTakenOnce : Type 0 where
    pub once : NoneIsTakenTwice
    pub all : (block : ℕ) → has forked_in block ≡ has taken_in block
    pub alike : length forked_in ≡ length taken_in

  -- how many faults of these turns strike a row of work: they find one under way, or at the broken words that it has met
  abbrev pub struck_in : ℕ
  struck_in = strikes_in m.shape m.code m.state turns

  -- how many of them undo work: those that strike a row of work, and with takeover by entries hard ones too that close a place after its push
  abbrev pub undone_in : ℕ
  undone_in = undone_among m.shape m.code m.state turns

  -- how many of these turns are work
  abbrev pub worked_in : ℕ
  worked_in = work_in m.shape m.code m.state turns

  -- a run of these turns ends as the program does: with its serial outcome, and that of its code, run depth first; with each branch that was
  -- forked taken once, and as many of them as forks that this code makes
  pub record EndsAsProgram (t : ProgramTree) (o : Outcome) : Type 0 where
    pub serially : HasOutcome t o
    pub depth_first : EndsDepthFirst t o
    pub branches : EachIsTakenOnce
    pub forks : (e : CapsuleEnd Result) → ComesTo (code_of t) (initial_arrays t) e → length forked_in ≡ e.counts.forks

  -- What holds after these turns. No branch is taken twice. Where the finish word says an outcome the run ends as the program does, with the
  -- arrays of the words then, or this trap; where it says that a pool is full, it is that of a place, and the program takes more words. That words
  -- are broken it says only after more than 2^34 work turns. All work turns are fewer than 256 for each capsule that the program's code runs depth
  -- first, if that run ends, and each fault that undoes work; no more do so than turns are faults. No place has given out more of its pool than that
  -- run takes.
  pub record IsAsProgram (t : ProgramTree) : Type 0 where
    pub once : NoneIsTakenTwice
    pub ended : finish_of (finish_behind m turns) ≡ Some finishes.Ended
        → EndsAsProgram t (outcome.Ended (arrays_from m.shape m.array_lengths (words_behind m turns) 0 (initial_arrays t)))
    pub trapped : (trap : Trap) (line : ℕ) → finish_of (finish_behind m turns) ≡ Some (finishes.Trapped trap line)
        → EndsAsProgram t (outcome.Trapped trap line)
    pub full : (place : ℕ) → finish_of (finish_behind m turns) ≡ Some (finishes.OutOfRoom place)
        → (place < m.shape.processors) × NeedsMoreRoom t m.shape.room
    pub unbroken : (place : ℕ) → finish_of (finish_behind m turns) ≡ Some (finishes.Broken place) → 2 ^ 34 < worked_in
    pub work : NeedsMoreTurns t undone_in worked_in
    pub few : undone_in ≤ faults_in turns
    pub pools : (e : CapsuleEnd Result) → ComesTo (code_of t) (initial_arrays t) e → (place : ℕ) → place < m.shape.processors
        → read m.shape (words_behind m turns) (RoomCounter place) ≤ pool_at m.shape place + pool_words (code_of t) e.counts

-- From the machine with which a run of a text's program begins, whatever the turns are that its processors make, and in whatever order, faults
-- and quits among them
abbrev pub RunsAreAsPrograms : Type 0
RunsAreAsPrograms = (text : List ℕ) (t : ProgramTree) → HasProgram text t → (sizes : Sizes)
    → (keeper : ℕ) (m : Situation) → OpensRun sizes (code_of t) (initial_arrays t) keeper m
    → (turns : List Turn) → AllByRecursion (IsTurnAmong m.shape.processors) turns
    → IsAsProgram m turns t

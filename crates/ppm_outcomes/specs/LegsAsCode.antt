-- What runs in legs of a code on an input come to, whoever wrote the code.
use Rattle.std.specs.Prelude.{◌≡◌, ◌≢◌, ◌≤◌, ◌<◌, ℕ, ◌+◌, ◌^◌, List, Some, None, length}
use Rattle.std.specs.List.{AllByRecursion}
use Rattle.ppm_strands.specs.Run.{End as CapsuleEnd}
use Rattle.ppm_words.specs.declared.named_array.NamedArray.{NamedArray}
use Rattle.ppm_words.specs.declared.outcome.Outcome.{Outcome}
use Rattle.ppm_words.specs.declared.outcome.Outcome.TheVariants as outcome
use Rattle.ppm_words.specs.declared.trap.Trap.{Trap}
use Rattle.ppm_cells.specs.Cells.{pool_at}
use Rattle.ppm_cells.specs.Finish.{finish_of}
use Rattle.ppm_cells.specs.Memory.{read}
use Rattle.ppm_cells.specs.declared.cell.Cell.TheVariants.{RoomCounter}
use Rattle.ppm_cells.specs.declared.finish.Finish.TheVariants as finishes
use Rattle.ppm_cells.specs.declared.shape.Takeover.TheVariants.{ByPlaces}
use Rattle.ppm_code.specs.Strands.{Result}
use Rattle.ppm_code.specs.declared.code.CodeParts.{CodeParts}
use Rattle.ppm_depth.specs.Run.{ComesTo, pool_words}
use Rattle.ppm_step.specs.Among.{IsTurnAmong}
use Rattle.ppm_step.specs.declared.turn.Turn.{Turn}
use Rattle.ppm_runs.specs.Legs.{Leg, AreLegs}
use Rattle.ppm_resumed.specs.Resumed.{TagsMayRise}
use Rattle.ppm_core.specs.Situation.{Situation}
use Rattle.ppm_loading.specs.Loading.{OpensRun}
use Rattle.ppm_loading.specs.Says.{arrays_from}
use Rattle.ppm_loading.specs.declared.loading.Sizes.{Sizes}
use Rattle.ppm_outcomes.specs.AsCode.{MayRun, CodeEnds, CodeNeedsMoreRoom, CodeNeedsMoreTurns}
use Rattle.ppm_outcomes.specs.Legs.{words_at_last, finish_at_last, forked_in_all, worked_in_all, faults_in_all, struck_in_all, lost_in_all, NoneIsTakenTwiceInAll, EachIsTakenOnceInAll}

-- the legs of a run from a machine, the latest first, and the turns after them
module _ (m : Situation) (legs : List Leg) (turns : List Turn) (code : CodeParts) (input : List NamedArray) where
  -- such a run ends as the code does, run depth first: with its outcome, with each branch that was forked taken once, and as many of them as forks
  -- that the code makes
  pub record EndsAsCodeInAll (o : Outcome) : Type 0 where
    pub depth_first : CodeEnds code input o
    pub branches : EachIsTakenOnceInAll m legs turns
    pub forks : (e : CapsuleEnd Result) → ComesTo code input e → length (forked_in_all m legs turns) ≡ e.counts.forks

  -- What holds after them. No branch is taken twice. Where the finish word says an outcome the run ends as the code does, with the arrays of the
  -- words then, or this trap; where it says that a pool is full, it is that of a place, and the code takes more words. All work turns are fewer
  -- than 256 for each capsule that the code runs depth first, if that run ends, each fault that strikes a row of work, and each fresh processor; no
  -- more faults strike one than turns are faults. No place has given out more of its pool than that run takes. The finish word stands for a finish;
  -- that words are broken it says only after more than 2^34 + 2^28 work turns, where words came back at most 2^50 times.
  pub record IsAsCodeInAll : Type 0 where
    pub once : NoneIsTakenTwiceInAll m legs turns
    pub ended : finish_of (finish_at_last m legs turns) ≡ Some finishes.Ended
        → EndsAsCodeInAll (outcome.Ended (arrays_from m.shape m.array_lengths (words_at_last m legs turns) 0 input))
    pub trapped : (trap : Trap) (line : ℕ) → finish_of (finish_at_last m legs turns) ≡ Some (finishes.Trapped trap line)
        → EndsAsCodeInAll (outcome.Trapped trap line)
    pub work : CodeNeedsMoreTurns code input (lost_in_all m legs turns) (worked_in_all m legs turns)
    pub few : struck_in_all m legs turns ≤ faults_in_all m legs turns
    pub full : (place : ℕ) → finish_of (finish_at_last m legs turns) ≡ Some (finishes.OutOfRoom place)
        → (place < m.shape.processors) × CodeNeedsMoreRoom code input m.shape.room
    pub pools : (e : CapsuleEnd Result) → ComesTo code input e → (place : ℕ) → place < m.shape.processors
        → read m.shape (words_at_last m legs turns) (RoomCounter place) ≤ pool_at m.shape place + pool_words code e.counts
    pub stands : finish_of (finish_at_last m legs turns) ≢ None
    pub unbroken : length legs ≤ 2 ^ 50 → (place : ℕ) → finish_of (finish_at_last m legs turns) ≡ Some (finishes.Broken place)
        → 2 ^ 34 + 2 ^ 28 < worked_in_all m legs turns

-- With takeover by places, from the machine with which a run of a sound code begins, however often its words came back, and whatever the turns
-- are, in whatever order, faults and quits among them. A run in which no words came back has no legs.
abbrev pub RunsInLegsAreAsCode : Type 0
RunsInLegsAreAsCode = (code : CodeParts) (input : List NamedArray) → MayRun code input → (sizes : Sizes) → sizes.takeover ≡ ByPlaces
    → (keeper : ℕ) (m : Situation) → OpensRun sizes code input keeper m
    → (legs : List Leg) → AreLegs m.shape m.code m.state.words legs
    → (turns : List Turn) → AllByRecursion (IsTurnAmong m.shape.processors) turns → IsAsCodeInAll m legs turns code input

-- and then no place's holder has the last tag, where words came back fewer than 2^50 times
abbrev pub TagsMayRiseInLegsOfCode : Type 0
TagsMayRiseInLegsOfCode = (code : CodeParts) (input : List NamedArray) → MayRun code input → (sizes : Sizes) → sizes.takeover ≡ ByPlaces
    → (keeper : ℕ) (m : Situation) → OpensRun sizes code input keeper m
    → (legs : List Leg) → AreLegs m.shape m.code m.state.words legs
    → (turns : List Turn) → AllByRecursion (IsTurnAmong m.shape.processors) turns
    → length legs < 2 ^ 50 → TagsMayRise m.shape (words_at_last m legs turns)

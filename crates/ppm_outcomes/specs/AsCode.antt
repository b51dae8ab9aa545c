-- What runs of a code on an input come to, whoever wrote the code: in the words of its depth-first run, with no program in sight.
use Rattle.std.specs.Prelude.{◌≡◌, ◌<◌, ◌≤◌, ℕ, ◌+◌, ◌*◌, ◌^◌, List, Some, length}
use Rattle.std.specs.List.{AllByRecursion}
use Rattle.ppm_strands.specs.Run.{End as CapsuleEnd}
use Rattle.ppm_words.specs.Inputs.{IsInput}
use Rattle.ppm_words.specs.declared.named_array.NamedArray.{NamedArray}
use Rattle.ppm_words.specs.declared.outcome.Outcome.{Outcome}
use Rattle.ppm_words.specs.declared.outcome.Outcome.TheVariants as outcome
use Rattle.ppm_words.specs.declared.trap.Trap.{Trap}
use Rattle.ppm_cells.specs.Cells.{pool_at}
use Rattle.ppm_cells.specs.Finish.{finish_of}
use Rattle.ppm_cells.specs.Memory.{read}
use Rattle.ppm_cells.specs.declared.cell.Cell.TheVariants.{RoomCounter}
use Rattle.ppm_cells.specs.declared.finish.Finish.TheVariants as finishes
use Rattle.ppm_code.specs.Code.{IsCode}
use Rattle.ppm_code.specs.Strands.{Result}
use Rattle.ppm_code.specs.declared.code.CodeParts.{CodeParts}
use Rattle.ppm_depth.specs.Run.{ComesTo, pool_words, said_of}
use Rattle.ppm_depth.specs.Sound.{IsSound}
use Rattle.ppm_depth.specs.Start.{NamesArrays}
use Rattle.ppm_step.specs.Among.{IsTurnAmong}
use Rattle.ppm_step.specs.declared.turn.Turn.{Turn}
use Rattle.ppm_core.specs.Situation.{Situation}
use Rattle.ppm_loading.specs.declared.loading.Sizes.{Sizes}
use Rattle.ppm_loading.specs.Loading.{OpensRun}
use Rattle.ppm_loading.specs.Says.{arrays_from}
use Rattle.ppm_outcomes.specs.RunOf.{words_behind, finish_behind}
use Rattle.ppm_outcomes.specs.Meant.{faults_in, forked_in, undone_in, worked_in, NoneIsTakenTwice, EachIsTakenOnce}

-- A code and an input whose runs are as the code is: it obeys the rules of codes, its root names arrays of the input, and both are sound.
pub record MayRun (code : CodeParts) (input : List NamedArray) : Type 0 where
  pub code_is : IsCode code
  pub input_is : IsInput input
  pub names : NamesArrays code input
  pub sound : IsSound code input

module _ (code : CodeParts) (input : List NamedArray) where
  -- the code, run depth first on this input, comes to an end, and that is this outcome
  abbrev pub CodeEnds : Outcome → Type 0
  CodeEnds o = (e : CapsuleEnd Result) × ComesTo code input e × (said_of input e.words e.outcome ≡ o)

  -- a pool of so many words is too small for the code: run depth first it has no end, or takes more of them
  abbrev pub CodeNeedsMoreRoom : (room : ℕ) → Type 0
  CodeNeedsMoreRoom room = (e : CapsuleEnd Result) → ComesTo code input e → room < pool_words code e.counts

  -- the code, run depth first, has no end, or so many turns are fewer than 256 for each of its capsules and each of so many faults
  abbrev pub CodeNeedsMoreTurns : (faults limit : ℕ) → Type 0
  CodeNeedsMoreTurns faults limit = (e : CapsuleEnd Result) → ComesTo code input e → limit < 256 * (e.counts.capsules + faults)

module _ (m : Situation) (turns : List Turn) (code : CodeParts) (input : List NamedArray) where
  -- a run of these turns ends as the code does, run depth first: with its outcome, with each branch that was forked taken once, and as many of
  -- them as forks that the code makes
  pub record EndsAsCode (o : Outcome) : Type 0 where
    pub depth_first : CodeEnds code input o
    pub branches : EachIsTakenOnce m turns
    pub forks : (e : CapsuleEnd Result) → ComesTo code input e → length (forked_in m turns) ≡ e.counts.forks

  -- What holds after these turns. No branch is taken twice. Where the finish word says an outcome the run ends as the code does, with the arrays
  -- of the words then, or this trap; where it says that a pool is full, it is that of a place, and the code takes more words. That words are
  -- broken it says only after more than 2^34 work turns. All work turns are fewer than 256 for each capsule that the code runs depth first, if
  -- that run ends, and each fault that undoes work; no more do so than turns are faults. No place has given out more of its pool than that run
  -- takes.
  pub record IsAsCode : Type 0 where
    pub once : NoneIsTakenTwice m turns
    pub ended : finish_of (finish_behind m turns) ≡ Some finishes.Ended
        → EndsAsCode (outcome.Ended (arrays_from m.shape m.array_lengths (words_behind m turns) 0 input))
    pub trapped : (trap : Trap) (line : ℕ) → finish_of (finish_behind m turns) ≡ Some (finishes.Trapped trap line)
        → EndsAsCode (outcome.Trapped trap line)
    pub full : (place : ℕ) → finish_of (finish_behind m turns) ≡ Some (finishes.OutOfRoom place)
        → (place < m.shape.processors) × CodeNeedsMoreRoom code input m.shape.room
    pub unbroken : (place : ℕ) → finish_of (finish_behind m turns) ≡ Some (finishes.Broken place) → 2 ^ 34 < worked_in m turns
    pub work : CodeNeedsMoreTurns code input (undone_in m turns) (worked_in m turns)
    pub few : undone_in m turns ≤ faults_in turns
    pub pools : (e : CapsuleEnd Result) → ComesTo code input e → (place : ℕ) → place < m.shape.processors
        → read m.shape (words_behind m turns) (RoomCounter place) ≤ pool_at m.shape place + pool_words code e.counts

-- From the machine with which a run of a sound code begins, with either takeover, whatever the turns are that its processors make, and in
-- whatever order, faults and quits among them
abbrev pub RunsAreAsCode : Type 0
RunsAreAsCode = (code : CodeParts) (input : List NamedArray) → MayRun code input → (sizes : Sizes)
    → (keeper : ℕ) (m : Situation) → OpensRun sizes code input keeper m
    → (turns : List Turn) → AllByRecursion (IsTurnAmong m.shape.processors) turns
    → IsAsCode m turns code input

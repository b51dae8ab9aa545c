-- Runs in laps. A lap is a stretch of turns that leaves out no processor that has something to do, and in which no fault strikes one of these.
use Rattle.std.specs.Prelude.{◌≡◌, ◌≢◌, ◌⊎◌, ◌≤◌, ◌<◌, ◌+◌, ◌*◌, ℕ, List, [], ◌∷◌, ◌++◌, length}
use Rattle.std.specs.List.{AllByRecursion}
use Rattle.ppm_strands.specs.Calm.{Calm}
use Rattle.ppm_strands.specs.Run.{End, Ends}
use Rattle.ppm_words.specs.declared.named_array.NamedArray.{NamedArray}
use Rattle.ppm_cells.specs.Memory.{read}
use Rattle.ppm_cells.specs.declared.cell.Cell.TheVariants.{FinishWord}
use Rattle.ppm_cells.specs.declared.shape.Shape.{Shape}
use Rattle.ppm_code.specs.Strands.{Result}
use Rattle.ppm_code.specs.declared.code.CodeParts.{CodeParts}
use Rattle.ppm_layout.specs.Correct.{Opens}
use Rattle.ppm_layout.specs.Root.{root_strand}
use Rattle.ppm_layout.specs.declared.images.Image.{Image}
use Rattle.ppm_step.specs.Among.{IsTurnAmong}
use Rattle.ppm_step.specs.Laws.{reached}
use Rattle.ppm_step.specs.Standings.{IsDone}
use Rattle.ppm_step.specs.State.{State, stand_of, after, opening, next_of}
use Rattle.ppm_step.specs.declared.turn.Next.TheVariants.{Seek as Seeks}
use Rattle.ppm_step.specs.declared.turn.Turn.{Turn}
use Rattle.ppm_frames.specs.Views.{view}
use Rattle.ppm_frames.specs.Seen.{arrays_at}
use Rattle.ppm_kept.specs.Running.{IsFair, strands}
use Rattle.ppm_runs.specs.Work.{work_in, undone_in}
use Rattle.ppm_progress.specs.Soon.{turns_of, StepsOnly}
use Rattle.ppm_progress.specs.Works.{HurtsNone}

-- Of processor c a lap from this state on asks this: it is done, or it would seek work next as the lap begins, and then it may do as it likes; or
-- it has thirteen turns or more in the lap, each of them a step.
abbrev pub TakesPart : State → (lap : List Turn) → (c : ℕ) → Type 0
TakesPart state lap c =
    (stand_of state c ≡ IsDone) ⊎ ((next_of (stand_of state c) ≡ Seeks) ⊎ ((13 ≤ turns_of c lap) × AllByRecursion (StepsOnly c) lap))

abbrev pub IsLap : Shape → State → (lap : List Turn) → Type 0
IsLap s state lap = (c : ℕ) → c < s.processors → TakesPart state lap c

-- from each state there is one that hurts nobody: thirteen steps of each processor
abbrev pub LapsAreThere : Type 0
LapsAreThere = (s : Shape) (state : State)
    → (lap : List Turn) × IsLap s state lap × AllByRecursion (IsTurnAmong s.processors) lap × AllByRecursion HurtsNone lap

-- some turns, whatever they are, and then those of a lap
pub record Portion : Type 0 where
  pub before : List Turn
  pub lap : List Turn

-- one after the other
abbrev pub turns_in : List Portion → List Turn
turns_in [] = []
turns_in (portion ∷ portions) = portion.before ++ (portion.lap ++ turns_in portions)

-- each has a lap, from the state that the turns before it lead to
abbrev pub AreLaps : Shape → CodeParts → State → List Portion → Type 0
AreLaps s code state [] = Unit {0}
AreLaps s code state (portion ∷ portions) =
    IsLap s (after s code state portion.before) portion.lap
    × AreLaps s code (after s code (after s code state portion.before) portion.lap) portions

-- From an image of a sound code, with either takeover, after any first turns, without hard faults: in each lap somebody makes a work turn, or the
-- finish word isn't 0 after it.
abbrev pub LapsHaveWork : Type 0
LapsHaveWork = (code : CodeParts) (input : List NamedArray) (s : Shape) (keeper : ℕ) (image : Image)
    → IsFair code → Opens code input s keeper image
    → Calm (strands s code) (root_strand code input) (arrays_at (view s image.words))
    → (first lap : List Turn) → AllByRecursion (IsTurnAmong s.processors) first → AllByRecursion (IsTurnAmong s.processors) lap
    → AllByRecursion HurtsNone first → AllByRecursion HurtsNone lap → IsLap s (reached s code image.words first) lap
    → (1 ≤ work_in s code (reached s code image.words first) lap) ⊎ (read s (reached s code image.words (first ++ lap)).words FinishWord ≢ 0)

-- A run that has more laps than 218 for each capsule of the depth-first run, if that ends, and 171 for each fault that undoes work, and 6, is over,
-- with whatever victims, and whatever turns between the laps, if none is a hard fault.
abbrev pub RunsEndFairly : Type 0
RunsEndFairly = (code : CodeParts) (input : List NamedArray) (s : Shape) (keeper : ℕ) (image : Image)
    → IsFair code → Opens code input s keeper image
    → Calm (strands s code) (root_strand code input) (arrays_at (view s image.words))
    → (portions : List Portion) → AllByRecursion (IsTurnAmong s.processors) (turns_in portions) → AllByRecursion HurtsNone (turns_in portions)
    → AreLaps s code (opening image.words s.processors) portions
    → (end : End Result) → Ends (strands s code) (root_strand code input) (arrays_at (view s image.words)) end
    → 218 * end.counts.capsules + 171 * undone_in s code (opening image.words s.processors) (turns_in portions) + 6 < length portions
    → read s (reached s code image.words (turns_in portions)).words FinishWord ≢ 0

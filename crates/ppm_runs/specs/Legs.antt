-- Runs in legs, with takeover by places: turns; then the words after them come back, and fresh processors go on from these; and so on.
use Rattle.std.specs.Prelude.{◌≡◌, ◌⊎◌, ◌≤◌, ◌<◌, ℕ, ◌+◌, ◌*◌, List, [], ◌∷◌, Some, length}
use Rattle.std.specs.List.{AllByRecursion}
use Rattle.ppm_strands.specs.Calm.{Calm}
use Rattle.ppm_strands.specs.Run.{End, Ends}
use Rattle.ppm_words.specs.declared.named_array.NamedArray.{NamedArray}
use Rattle.ppm_cells.specs.Cells.{pool_at}
use Rattle.ppm_cells.specs.Finish.{finish_of, IsOutcome}
use Rattle.ppm_cells.specs.Memory.{read}
use Rattle.ppm_cells.specs.declared.cell.Cell.TheVariants.{FinishWord, RoomCounter}
use Rattle.ppm_cells.specs.declared.finish.Finish.{Finish}
use Rattle.ppm_cells.specs.declared.finish.Finish.TheVariants.{OutOfRoom}
use Rattle.ppm_cells.specs.declared.shape.Shape.{Shape}
use Rattle.ppm_cells.specs.declared.shape.Takeover.TheVariants.{ByPlaces}
use Rattle.ppm_code.specs.Sizes.{frame_size}
use Rattle.ppm_code.specs.Strands.{Result}
use Rattle.ppm_code.specs.declared.code.CodeParts.{CodeParts}
use Rattle.ppm_layout.specs.Correct.{Opens}
use Rattle.ppm_layout.specs.Root.{root_strand}
use Rattle.ppm_layout.specs.declared.images.Image.{Image}
use Rattle.ppm_step.specs.Among.{IsTurnAmong}
use Rattle.ppm_step.specs.State.{State as RunState, after, opening}
use Rattle.ppm_step.specs.declared.turn.Turn.{Turn}
use Rattle.ppm_tickets.specs.Along.{homes, forked as forked_in, taken as taken_in}
use Rattle.ppm_tickets.specs.Homes.{Home, Unborn}
use Rattle.ppm_tickets.specs.Renewal.{IsRenewal}
use Rattle.ppm_frames.specs.Views.{view}
use Rattle.ppm_frames.specs.Seen.{arrays_at}
use Rattle.ppm_frames.specs.Skeletons.{Skeleton}
use Rattle.ppm_kept.specs.Running.{IsFair, strands}
use Rattle.ppm_runs.specs.Run.{IsRun}
use Rattle.ppm_runs.specs.Moments.{AreOnce}
use Rattle.ppm_runs.specs.Work.{work_in, strikes_in}
use Rattle.ppm_runs.specs.Outcomes.{EndsWell}

-- turns, and the words with which fresh processors go on after them
pub record Leg : Type 0 where
  pub turns : List Turn
  pub back : List ℕ

-- fresh processors go on from these words: a renewal of those before, with the finish word that stood there, or with none
pub record GoOn (s : Shape) (words back : List ℕ) : Type 0 where
  pub renewal : IsRenewal s words back
  pub finish : (read s back FinishWord ≡ read s words FinishWord) ⊎ (read s back FinishWord ≡ 0)

-- the legs of a run from these words, the latest first
module _ (s : Shape) (code : CodeParts) (words : List ℕ) where
  -- the words from which the run goes on after legs, and the state with which it does
  abbrev pub words_then : List Leg → List ℕ
  words_then [] = words
  words_then (leg ∷ legs) = leg.back

  abbrev pub state_then : List Leg → RunState
  state_then legs = opening (words_then legs) s.processors

  -- the turns of each leg are made by processors of the shape, and its words come of those after them
  abbrev pub AreLegs : List Leg → Type 0
  AreLegs [] = Unit {0}
  AreLegs (leg ∷ legs) = AreLegs legs × AllByRecursion (IsTurnAmong s.processors) leg.turns
      × GoOn s (after s code (state_then legs) leg.turns).words leg.back

  -- where right branches are then, and the blocks whose right branches were forked and taken in all of them
  abbrev pub homes_then : List Leg → ℕ → Home
  homes_then [] = λ r. Unborn
  homes_then (leg ∷ legs) = homes s code (state_then legs) (homes_then legs) leg.turns

  abbrev pub forked_then : List Leg → List ℕ
  forked_then [] = []
  forked_then (leg ∷ legs) = forked_in s code (state_then legs) (forked_then legs) leg.turns

  abbrev pub taken_then : List Leg → List ℕ
  taken_then [] = []
  taken_then (leg ∷ legs) = taken_in s code (state_then legs) (taken_then legs) leg.turns

  -- the work turns that were made in them, and the faults that struck a row of work
  abbrev pub work_then : List Leg → ℕ
  work_then [] = 0
  work_then (leg ∷ legs) = work_then legs + work_in s code (state_then legs) leg.turns

  abbrev pub strikes_then : List Leg → ℕ
  strikes_then [] = 0
  strikes_then (leg ∷ legs) = strikes_then legs + strikes_in s code (state_then legs) leg.turns

  module _ (legs : List Leg) (turns : List Turn) where
    -- the state after legs and the turns that follow
    abbrev pub last_state : RunState
    last_state = after s code (state_then legs) turns

    abbrev pub all_homes : ℕ → Home
    all_homes = homes s code (state_then legs) (homes_then legs) turns

    abbrev pub all_forked : List ℕ
    all_forked = forked_in s code (state_then legs) (forked_then legs) turns

    abbrev pub all_taken : List ℕ
    all_taken = taken_in s code (state_then legs) (taken_then legs) turns

    abbrev pub all_work : ℕ
    all_work = work_then legs + work_in s code (state_then legs) turns

    abbrev pub all_strikes : ℕ
    all_strikes = strikes_then legs + strikes_in s code (state_then legs) turns

-- From an image of a sound code, whatever the legs and the turns after them: a run's state is come to
abbrev pub LegsStay : Type 0
LegsStay = (code : CodeParts) (input : List NamedArray) (s : Shape) (keeper : ℕ) (image : Image)
    → s.takeover ≡ ByPlaces → IsFair code → Opens code input s keeper image
    → Calm (strands s code) (root_strand code input) (arrays_at (view s image.words))
    → (legs : List Leg) → AreLegs s code image.words legs → (turns : List Turn) → AllByRecursion (IsTurnAmong s.processors) turns
    → (t : Skeleton)
    × IsRun s code (root_strand code input) (arrays_at (view s image.words)) (last_state s code image.words legs turns)
    (all_homes s code image.words legs turns) (all_forked s code image.words legs turns) (all_taken s code image.words legs turns) t

-- no right branch was forked twice over all of them, none was taken twice, and each that was taken was forked
abbrev pub OnceOverLegs : Type 0
OnceOverLegs = (code : CodeParts) (input : List NamedArray) (s : Shape) (keeper : ℕ) (image : Image)
    → s.takeover ≡ ByPlaces → IsFair code → Opens code input s keeper image
    → Calm (strands s code) (root_strand code input) (arrays_at (view s image.words))
    → (legs : List Leg) → AreLegs s code image.words legs → (turns : List Turn) → AllByRecursion (IsTurnAmong s.processors) turns
    → AreOnce (all_forked s code image.words legs turns) (all_taken s code image.words legs turns)

-- where the finish word says an outcome the depth-first run of the root ends so, and each branch that was forked was taken once
abbrev pub LegsComeTo : Type 0
LegsComeTo = (code : CodeParts) (input : List NamedArray) (s : Shape) (keeper : ℕ) (image : Image)
    → s.takeover ≡ ByPlaces → IsFair code → Opens code input s keeper image
    → Calm (strands s code) (root_strand code input) (arrays_at (view s image.words))
    → (legs : List Leg) → AreLegs s code image.words legs → (turns : List Turn) → AllByRecursion (IsTurnAmong s.processors) turns
    → (finish : Finish) → finish_of (read s (last_state s code image.words legs turns).words FinishWord) ≡ Some finish → IsOutcome finish
    → (t : Skeleton)
    × EndsWell s code (root_strand code input) (arrays_at (view s image.words)) (last_state s code image.words legs turns)
    (all_forked s code image.words legs turns) (all_taken s code image.words legs turns) t finish

-- and where that run ends, as many branches were forked over all of them as it forks
abbrev pub ForksOverLegs : Type 0
ForksOverLegs = (code : CodeParts) (input : List NamedArray) (s : Shape) (keeper : ℕ) (image : Image)
    → s.takeover ≡ ByPlaces → IsFair code → Opens code input s keeper image
    → Calm (strands s code) (root_strand code input) (arrays_at (view s image.words))
    → (legs : List Leg) → AreLegs s code image.words legs → (turns : List Turn) → AllByRecursion (IsTurnAmong s.processors) turns
    → (finish : Finish) → finish_of (read s (last_state s code image.words legs turns).words FinishWord) ≡ Some finish → IsOutcome finish
    → (end : End Result) → Ends (strands s code) (root_strand code input) (arrays_at (view s image.words)) end
    → length (all_forked s code image.words legs turns) ≡ end.counts.forks

-- where it says that a pool is full, and the depth-first run of the root comes to an end, that run takes more words than a pool has
abbrev pub RoomOverLegs : Type 0
RoomOverLegs = (code : CodeParts) (input : List NamedArray) (s : Shape) (keeper : ℕ) (image : Image)
    → s.takeover ≡ ByPlaces → IsFair code → Opens code input s keeper image
    → Calm (strands s code) (root_strand code input) (arrays_at (view s image.words))
    → (legs : List Leg) → AreLegs s code image.words legs → (turns : List Turn) → AllByRecursion (IsTurnAmong s.processors) turns
    → (place : ℕ) → finish_of (read s (last_state s code image.words legs turns).words FinishWord) ≡ Some (OutOfRoom place)
    → (end : End Result) → Ends (strands s code) (root_strand code input) (arrays_at (view s image.words)) end
    → s.room < frame_size code code.root + end.counts.block_words

-- at each moment, where that run comes to an end, no place has given out more of its pool than it takes
abbrev pub RoomIsWithinOverLegs : Type 0
RoomIsWithinOverLegs = (code : CodeParts) (input : List NamedArray) (s : Shape) (keeper : ℕ) (image : Image)
    → s.takeover ≡ ByPlaces → IsFair code → Opens code input s keeper image
    → Calm (strands s code) (root_strand code input) (arrays_at (view s image.words))
    → (legs : List Leg) → AreLegs s code image.words legs → (turns : List Turn) → AllByRecursion (IsTurnAmong s.processors) turns
    → (end : End Result) → Ends (strands s code) (root_strand code input) (arrays_at (view s image.words)) end
    → (place : ℕ) → place < s.processors
    → read s (last_state s code image.words legs turns).words (RoomCounter place) ≤ pool_at s place + (frame_size code code.root + end.counts.block_words)

-- Where the depth-first run of the root ends, all work turns together are no more than 218 for each of its capsules, 171 for each fault
-- that strikes a row, 172 for each processor whenever words come back, since a row that was under way is lost, and 6.
abbrev pub WorkOverLegs : Type 0
WorkOverLegs = (code : CodeParts) (input : List NamedArray) (s : Shape) (keeper : ℕ) (image : Image)
    → s.takeover ≡ ByPlaces → IsFair code → Opens code input s keeper image
    → Calm (strands s code) (root_strand code input) (arrays_at (view s image.words))
    → (legs : List Leg) → AreLegs s code image.words legs → (turns : List Turn) → AllByRecursion (IsTurnAmong s.processors) turns
    → (end : End Result) → Ends (strands s code) (root_strand code input) (arrays_at (view s image.words)) end
    → all_work s code image.words legs turns
    ≤ 218 * end.counts.capsules + 171 * all_strikes s code image.words legs turns + 172 * (s.processors * length legs) + 6

-- all work turns over legs are fewer than 256 for each capsule, each fault that strikes a row, and each fresh processor
abbrev pub WorkOverLegsIsWithin256 : Type 0
WorkOverLegsIsWithin256 = (code : CodeParts) (input : List NamedArray) (s : Shape) (keeper : ℕ) (image : Image)
    → s.takeover ≡ ByPlaces → IsFair code → Opens code input s keeper image
    → Calm (strands s code) (root_strand code input) (arrays_at (view s image.words))
    → (legs : List Leg) → AreLegs s code image.words legs → (turns : List Turn) → AllByRecursion (IsTurnAmong s.processors) turns
    → (end : End Result) → Ends (strands s code) (root_strand code input) (arrays_at (view s image.words)) end
    → all_work s code image.words legs turns
    < 256 * (end.counts.capsules + (all_strikes s code image.words legs turns + s.processors * length legs))

-- Runs by places in laps, with hard faults among the turns. A lap is a stretch of turns in which each processor that has something to do makes steps,
-- and each place at work that a dead processor has left is looked at.
use Rattle.std.specs.Prelude.{◌≡◌, ◌≢◌, ◌⊎◌, ◌≤◌, ◌<◌, ◌+◌, ◌*◌, ◌^◌, ℕ, zero, suc, true, List, [], ◌∷◌, ◌++◌, length}
use Rattle.std.specs.List.{AllByRecursion}
use Rattle.ppm_strands.specs.Calm.{Calm}
use Rattle.ppm_strands.specs.Run.{End, Ends}
use Rattle.ppm_words.specs.declared.named_array.NamedArray.{NamedArray}
use Rattle.ppm_cells.specs.Memory.{read}
use Rattle.ppm_cells.specs.declared.cell.Cell.TheVariants.{FinishWord}
use Rattle.ppm_cells.specs.declared.shape.Shape.{Shape}
use Rattle.ppm_cells.specs.declared.shape.Takeover.TheVariants.{ByPlaces}
use Rattle.ppm_code.specs.Strands.{Result}
use Rattle.ppm_code.specs.declared.code.CodeParts.{CodeParts}
use Rattle.ppm_layout.specs.Correct.{Opens}
use Rattle.ppm_layout.specs.Root.{root_strand}
use Rattle.ppm_layout.specs.declared.images.Image.{Image}
use Rattle.ppm_step.specs.Among.{IsTurnAmong}
use Rattle.ppm_step.specs.Laws.{reached}
use Rattle.ppm_step.specs.Standings.{IsDone}
use Rattle.ppm_step.specs.State.{State, stand_of, after, opening, next_of, seeks_holder}
use Rattle.ppm_step.specs.declared.turn.Act.TheVariants.{Step}
use Rattle.ppm_step.specs.declared.turn.Next.TheVariants.{Seek as Seeks}
use Rattle.ppm_step.specs.declared.turn.Turn.{Turn}
use Rattle.ppm_tickets.specs.Lawful.{tag}
use Rattle.ppm_tickets.specs.View.{view as spots}
use Rattle.ppm_tickets.specs.Words.{Word, Spot, Holder}
use Rattle.ppm_frames.specs.Views.{view}
use Rattle.ppm_frames.specs.Seen.{arrays_at}
use Rattle.ppm_kept.specs.Running.{IsFair, strands}
use Rattle.ppm_runs.specs.Legs.{Leg, state_then, AreLegs, all_strikes, last_state}
use Rattle.ppm_runs.specs.Work.{work_in, undone_in}
use Rattle.ppm_progress.specs.Laps.{Portion, turns_in}
use Rattle.ppm_progress.specs.Soon.{turns_of, StepsOnly}
use Rattle.ppm_takeover.specs.Lost.{IsLeft}

-- somebody looks at place v in a lap as it seeks work, and makes six steps more in it, no fault among them
pub record LooksAt (s : Shape) (code : CodeParts) (state : State) (lap : List Turn) (v : ℕ) : Type 0 where
  pub processor : ℕ
  pub before : List Turn
  pub rest : List Turn
  pub lap_is : lap ≡ before ++ record { processor = processor; act = Step v } ∷ rest
  pub seeks : seeks_holder (stand_of (after s code state before) processor) ≡ true
  pub steps : AllByRecursion (StepsOnly processor) rest
  pub enough : 6 ≤ turns_of processor rest

-- Of processor c a lap from this state on asks this: it is done, or it would seek work next as the lap begins, and then it may do as it likes; or
-- it has 23 turns or more in the lap, each of them a step.
abbrev pub TakesPart : State → (lap : List Turn) → (c : ℕ) → Type 0
TakesPart state lap c =
    (stand_of state c ≡ IsDone) ⊎ ((next_of (stand_of state c) ≡ Seeks) ⊎ ((23 ≤ turns_of c lap) × AllByRecursion (StepsOnly c) lap))

-- a lap: so it is with each processor, and each place at work whose holder is dead as the lap begins is looked at
pub record IsLap (s : Shape) (code : CodeParts) (state : State) (lap : List Turn) : Type 0 where
  pub part : (c : ℕ) → c < s.processors → TakesPart state lap c
  pub looks : (p : ℕ) → IsLeft s state.words p → LooksAt s code state lap p

-- the tags of the holder words of so many places, together
abbrev pub holder_tags : (places : ℕ) → (Spot → Word) → ℕ
holder_tags zero m = 0
holder_tags (suc n) m = tag (m (Holder n)) + holder_tags n m

-- portions of a run, each with a lap from the state that the turns before it lead to
abbrev pub AreLaps : Shape → CodeParts → State → List Portion → Type 0
AreLaps s code state [] = Unit {0}
AreLaps s code state (portion ∷ portions) =
    IsLap s code (after s code state portion.before) portion.lap
    × AreLaps s code (after s code (after s code state portion.before) portion.lap) portions

-- By places, from an image of a sound code, after any first turns: in each lap somebody makes a work turn, or a place has a new holder, which
-- raises its tag, or the finish word isn't 0 after it.
abbrev pub LapsHaveWorkOrTakeover : Type 0
LapsHaveWorkOrTakeover = (code : CodeParts) (input : List NamedArray) (s : Shape) (keeper : ℕ) (image : Image)
    → s.takeover ≡ ByPlaces → IsFair code → Opens code input s keeper image
    → Calm (strands s code) (root_strand code input) (arrays_at (view s image.words))
    → (first lap : List Turn) → AllByRecursion (IsTurnAmong s.processors) first → AllByRecursion (IsTurnAmong s.processors) lap
    → IsLap s code (reached s code image.words first) lap
    → (1 ≤ work_in s code (reached s code image.words first) lap)
    ⊎ ((holder_tags s.processors (spots s (reached s code image.words first).words)
    < holder_tags s.processors (spots s (reached s code image.words (first ++ lap)).words))
    ⊎ (read s (reached s code image.words (first ++ lap)).words FinishWord ≢ 0))

-- A run that has more laps than 218 for each capsule of the depth-first run, if that ends, 171 for each fault that undoes work, 6, and one for each
-- pair of processors, is over, whatever turns come between the laps, hard faults among them.
abbrev pub RunsEndByPlaces : Type 0
RunsEndByPlaces = (code : CodeParts) (input : List NamedArray) (s : Shape) (keeper : ℕ) (image : Image)
    → s.takeover ≡ ByPlaces → IsFair code → Opens code input s keeper image
    → Calm (strands s code) (root_strand code input) (arrays_at (view s image.words))
    → (portions : List Portion) → AllByRecursion (IsTurnAmong s.processors) (turns_in portions)
    → AreLaps s code (opening image.words s.processors) portions
    → (end : End Result) → Ends (strands s code) (root_strand code input) (arrays_at (view s image.words)) end
    → 218 * end.counts.capsules + 171 * undone_in s code (opening image.words s.processors) (turns_in portions) + 6 + s.processors * s.processors
    < length portions
    → read s (reached s code image.words (turns_in portions)).words FinishWord ≢ 0

-- Over legs: a leg, after any others, that has more laps is over, with the work that fresh processors do again, and the tags that words had when they
-- came back. There are fewer legs than holder words have tags.
abbrev pub LegsEndByPlaces : Type 0
LegsEndByPlaces = (code : CodeParts) (input : List NamedArray) (s : Shape) (keeper : ℕ) (image : Image)
    → s.takeover ≡ ByPlaces → IsFair code → Opens code input s keeper image
    → Calm (strands s code) (root_strand code input) (arrays_at (view s image.words))
    → (legs : List Leg) → AreLegs s code image.words legs → (s.processors + 1) * (length legs + 1) < 2 ^ 58
    → (portions : List Portion) → AllByRecursion (IsTurnAmong s.processors) (turns_in portions)
    → AreLaps s code (state_then s code image.words legs) portions
    → (end : End Result) → Ends (strands s code) (root_strand code input) (arrays_at (view s image.words)) end
    → 218 * end.counts.capsules + 171 * all_strikes s code image.words legs (turns_in portions) + 172 * (s.processors * length legs) + 6
    + s.processors * ((s.processors + 1) * length legs + s.processors) < length portions
    → read s (last_state s code image.words legs (turns_in portions)).words FinishWord ≢ 0

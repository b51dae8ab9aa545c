-- By places, whatever the turns of others, hard faults among them: a processor that works makes a work turn soon.
use Rattle.std.specs.Prelude.{◌≡◌, ◌≢◌, ◌⊎◌, ◌≤◌, ℕ, true, List}
use Rattle.std.specs.List.{AllByRecursion}
use Rattle.ppm_strands.specs.Calm.{Calm}
use Rattle.ppm_words.specs.declared.named_array.NamedArray.{NamedArray}
use Rattle.ppm_cells.specs.Memory.{read}
use Rattle.ppm_cells.specs.declared.cell.Cell.TheVariants.{FinishWord}
use Rattle.ppm_cells.specs.declared.shape.Shape.{Shape}
use Rattle.ppm_cells.specs.declared.shape.Takeover.TheVariants.{ByPlaces}
use Rattle.ppm_code.specs.declared.code.CodeParts.{CodeParts}
use Rattle.ppm_layout.specs.Correct.{Opens}
use Rattle.ppm_layout.specs.Root.{root_strand}
use Rattle.ppm_layout.specs.declared.images.Image.{Image}
use Rattle.ppm_step.specs.Among.{IsTurnAmong}
use Rattle.ppm_step.specs.State.{after, along, work_of}
use Rattle.ppm_step.specs.declared.turn.Turn.{Turn}
use Rattle.ppm_tickets.specs.Words.{has}
use Rattle.ppm_frames.specs.Views.{view}
use Rattle.ppm_frames.specs.Seen.{arrays_at}
use Rattle.ppm_kept.specs.Running.{IsFair, strands}
use Rattle.ppm_runs.specs.Legs.{Leg, AreLegs, last_state}
use Rattle.ppm_progress.specs.Soon.{turns_of, StepsOnly}
use Rattle.ppm_progress.specs.Works.{Works}

-- By places, from an image of a sound code, after any legs and any first turns: if processor c works, and then makes thirteen steps, no fault among
-- them, one of these is a work turn, or the finish word isn't 0 after these turns.
abbrev pub WorksSoonByPlaces : Type 0
WorksSoonByPlaces = (code : CodeParts) (input : List NamedArray) (s : Shape) (keeper : ℕ) (image : Image)
    → s.takeover ≡ ByPlaces → IsFair code → Opens code input s keeper image
    → Calm (strands s code) (root_strand code input) (arrays_at (view s image.words))
    → (legs : List Leg) → AreLegs s code image.words legs
    → (first more : List Turn) → AllByRecursion (IsTurnAmong s.processors) first → AllByRecursion (IsTurnAmong s.processors) more
    → (c : ℕ) → Works s (last_state s code image.words legs first) c → AllByRecursion (StepsOnly c) more → 13 ≤ turns_of c more
    → (has (along s code work_of (last_state s code image.words legs first) more) c ≡ true)
    ⊎ (read s (after s code (last_state s code image.words legs first) more).words FinishWord ≢ 0)

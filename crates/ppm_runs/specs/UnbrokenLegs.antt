-- In a run in legs, by places, in which at most 2^34 + 2^28 turns are work, nobody meets broken words; and the finish word stands for a finish.
use Rattle.std.specs.Prelude.{◌≡◌, ◌≤◌, ℕ, ◌+◌, ◌^◌, List, Some, length}
use Rattle.std.specs.List.{AllByRecursion}
use Rattle.ppm_strands.specs.Calm.{Calm}
use Rattle.ppm_words.specs.declared.named_array.NamedArray.{NamedArray}
use Rattle.ppm_cells.specs.Finish.{finish_of}
use Rattle.ppm_cells.specs.Memory.{read}
use Rattle.ppm_cells.specs.declared.cell.Cell.TheVariants.{FinishWord}
use Rattle.ppm_cells.specs.declared.finish.Finish.{Finish}
use Rattle.ppm_cells.specs.declared.shape.Shape.{Shape}
use Rattle.ppm_cells.specs.declared.shape.Takeover.TheVariants.{ByPlaces}
use Rattle.ppm_code.specs.declared.code.CodeParts.{CodeParts}
use Rattle.ppm_layout.specs.Correct.{Opens}
use Rattle.ppm_layout.specs.Root.{root_strand}
use Rattle.ppm_layout.specs.declared.images.Image.{Image}
use Rattle.ppm_step.specs.Among.{IsTurnAmong}
use Rattle.ppm_step.specs.declared.turn.Turn.{Turn}
use Rattle.ppm_frames.specs.Views.{view}
use Rattle.ppm_frames.specs.Seen.{arrays_at}
use Rattle.ppm_kept.specs.Running.{IsFair, strands}
use Rattle.ppm_runs.specs.Legs.{Leg, AreLegs, last_state, all_work}
use Rattle.ppm_runs.specs.Unbroken.{HasNoBreak}

-- From an image of a sound code, whatever the legs and the turns after them, as long as at most 2^34 + 2^28 of all turns are work, and
-- words came back at most 2^50 times.
abbrev pub NothingBreaksOverLegs : Type 0
NothingBreaksOverLegs = (code : CodeParts) (input : List NamedArray) (s : Shape) (keeper : ℕ) (image : Image)
    → s.takeover ≡ ByPlaces → IsFair code → Opens code input s keeper image
    → Calm (strands s code) (root_strand code input) (arrays_at (view s image.words))
    → (legs : List Leg) → AreLegs s code image.words legs → (turns : List Turn) → AllByRecursion (IsTurnAmong s.processors) turns
    → length legs ≤ 2 ^ 50 → all_work s code image.words legs turns ≤ 2 ^ 34 + 2 ^ 28
    → HasNoBreak s (last_state s code image.words legs turns)

-- whatever the legs and the turns are, the finish word stands for a finish
abbrev pub FinishStandsOverLegs : Type 0
FinishStandsOverLegs = (code : CodeParts) (input : List NamedArray) (s : Shape) (keeper : ℕ) (image : Image)
    → IsFair code → Opens code input s keeper image
    → (legs : List Leg) → AreLegs s code image.words legs → (turns : List Turn) → AllByRecursion (IsTurnAmong s.processors) turns
    → (finish : Finish) × (finish_of (read s (last_state s code image.words legs turns).words FinishWord) ≡ Some finish)

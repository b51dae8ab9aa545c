-- Runs by places in legs: fresh processors go on from words that come back.
use Rattle.std.specs.Prelude.{◌≡◌, ◌<◌, ℕ, List}
use Rattle.std.specs.List.{AllByRecursion}
use Rattle.ppm_strands.specs.Calm.{Calm}
use Rattle.ppm_words.specs.declared.named_array.NamedArray.{NamedArray}
use Rattle.ppm_cells.specs.Memory.{read}
use Rattle.ppm_cells.specs.declared.cell.Cell.TheVariants.{FinishWord}
use Rattle.ppm_cells.specs.declared.shape.Shape.{Shape}
use Rattle.ppm_cells.specs.declared.shape.Takeover.TheVariants.{ByPlaces}
use Rattle.ppm_code.specs.declared.code.CodeParts.{CodeParts}
use Rattle.ppm_layout.specs.Correct.{Opens}
use Rattle.ppm_layout.specs.Root.{root_strand}
use Rattle.ppm_layout.specs.declared.images.Image.{Image}
use Rattle.ppm_step.specs.Among.{IsTurnAmong}
use Rattle.ppm_step.specs.declared.turn.Turn.{Turn}
use Rattle.ppm_tickets.specs.View.{view as spots, kinds}
use Rattle.ppm_frames.specs.Views.{view}
use Rattle.ppm_frames.specs.Seen.{arrays_at}
use Rattle.ppm_kept.specs.Running.{IsFair, strands}
use Rattle.ppm_runs.specs.Legs.{Leg, AreLegs, last_state}
use Rattle.ppm_progress.specs.Works.{IsAtWork, Works, HurtsNone}

-- at each moment of a run in legs, whatever the turns and the faults, some place is at work
abbrev pub SomePlaceIsAtWorkOverLegs : Type 0
SomePlaceIsAtWorkOverLegs = (code : CodeParts) (input : List NamedArray) (s : Shape) (keeper : ℕ) (image : Image)
    → s.takeover ≡ ByPlaces → IsFair code → Opens code input s keeper image
    → Calm (strands s code) (root_strand code input) (arrays_at (view s image.words))
    → (legs : List Leg) → AreLegs s code image.words legs → (turns : List Turn) → AllByRecursion (IsTurnAmong s.processors) turns
    → (p : ℕ) × (p < s.processors)
    × IsAtWork (spots s (last_state s code image.words legs turns).words) p (kinds s (last_state s code image.words legs turns).words p)

-- If no turn of the latest leg is a hard fault, some processor works while the finish word is 0, whatever the legs before.
abbrev pub SomebodyWorksOverLegs : Type 0
SomebodyWorksOverLegs = (code : CodeParts) (input : List NamedArray) (s : Shape) (keeper : ℕ) (image : Image)
    → s.takeover ≡ ByPlaces → IsFair code → Opens code input s keeper image
    → Calm (strands s code) (root_strand code input) (arrays_at (view s image.words))
    → (legs : List Leg) → AreLegs s code image.words legs
    → (turns : List Turn) → AllByRecursion (IsTurnAmong s.processors) turns → AllByRecursion HurtsNone turns
    → read s (last_state s code image.words legs turns).words FinishWord ≡ 0
    → (c : ℕ) × Works s (last_state s code image.words legs turns) c

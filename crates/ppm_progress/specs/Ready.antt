-- Each moment of a run has something to do: a place has a strand of the tree that the words show, or a right branch of it waits to be taken.
use Rattle.std.specs.Prelude.{◌≡◌, ℕ, List}
use Rattle.std.specs.List.{AllByRecursion}
use Rattle.ppm_strands.specs.Calm.{Calm}
use Rattle.ppm_words.specs.declared.named_array.NamedArray.{NamedArray}
use Rattle.ppm_cells.specs.declared.shape.Shape.{Shape}
use Rattle.ppm_cells.specs.declared.shape.Takeover.TheVariants.{ByPlaces}
use Rattle.ppm_code.specs.declared.code.CodeParts.{CodeParts}
use Rattle.ppm_layout.specs.Correct.{Opens}
use Rattle.ppm_layout.specs.Root.{root_strand}
use Rattle.ppm_layout.specs.declared.images.Image.{Image}
use Rattle.ppm_step.specs.Among.{IsTurnAmong}
use Rattle.ppm_step.specs.Laws.{reached}
use Rattle.ppm_step.specs.declared.turn.Turn.{Turn}
use Rattle.ppm_tickets.specs.Along.{homes_by}
use Rattle.ppm_frames.specs.Views.{view}
use Rattle.ppm_frames.specs.Seen.{arrays_at}
use Rattle.ppm_frames.specs.Skeletons.{Skeleton}
use Rattle.ppm_kept.specs.Running.{IsFair, strands}
use Rattle.ppm_kept.specs.Fates.{Agrees}
use Rattle.ppm_runs.specs.Run.{fate_of}
use Rattle.ppm_runs.specs.Shown.{Shows}
use Rattle.ppm_advance.specs.Advance.{HasReady}

-- With takeover by places, from an image of a sound code, whatever the turns, hard faults among them. In a run that is over this may be the root's
-- strand at its end.
abbrev pub SomethingIsReady : Type 0
SomethingIsReady = (code : CodeParts) (input : List NamedArray) (s : Shape) (keeper : ℕ) (image : Image)
    → s.takeover ≡ ByPlaces → IsFair code → Opens code input s keeper image
    → Calm (strands s code) (root_strand code input) (arrays_at (view s image.words))
    → (turns : List Turn) → AllByRecursion (IsTurnAmong s.processors) turns
    → (t : Skeleton) × Shows s code (reached s code image.words turns).words t
    × Agrees t (λ r. fate_of (homes_by s code image.words turns r)) × HasReady t

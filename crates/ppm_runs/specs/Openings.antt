-- A run's beginning.
use Rattle.std.specs.Prelude.{ℕ, List, []}
use Rattle.ppm_strands.specs.Calm.{Calm}
use Rattle.ppm_words.specs.declared.named_array.NamedArray.{NamedArray}
use Rattle.ppm_cells.specs.Cells.{pool_at}
use Rattle.ppm_cells.specs.declared.shape.Shape.{Shape}
use Rattle.ppm_code.specs.Sizes.{slots_of}
use Rattle.ppm_code.specs.declared.code.CodeParts.{CodeParts}
use Rattle.ppm_layout.specs.Correct.{Opens}
use Rattle.ppm_layout.specs.Root.{root_strand}
use Rattle.ppm_layout.specs.declared.images.Image.{Image}
use Rattle.ppm_step.specs.State.{opening}
use Rattle.ppm_tickets.specs.Homes.{Unborn}
use Rattle.ppm_frames.specs.Views.{view}
use Rattle.ppm_frames.specs.Seen.{arrays_at}
use Rattle.ppm_frames.specs.Skeletons.{Begins, InPlace, Leaf}
use Rattle.ppm_kept.specs.Running.{strands}
use Rattle.ppm_runs.specs.Run.{IsRun}

-- a machine that opens an image of a sound code is in the state of a run, with no branch forked, and
-- with the strand of the root at the keeper's place as its tree
abbrev pub RunsOpen : Type 0
RunsOpen = (code : CodeParts) (input : List NamedArray) (s : Shape) (keeper : ℕ) (image : Image)
    → Opens code input s keeper image
    → Calm (strands s code) (root_strand code input) (arrays_at (view s image.words))
    → IsRun s code (root_strand code input) (arrays_at (view s image.words)) (opening image.words s.processors) (λ r. Unborn) [] []
    (Leaf (InPlace keeper) (Begins 0) (pool_at s keeper) (slots_of code code.root))

-- What it is for words to show a tree of strands.
use Rattle.std.specs.Prelude.{◌≡◌, ◌≤◌, ℕ, List}
use Rattle.ppm_cells.specs.declared.link.LinkKind.TheVariants.{Root}
use Rattle.ppm_cells.specs.declared.shape.Shape.{Shape}
use Rattle.ppm_code.specs.declared.code.CodeParts.{CodeParts}
use Rattle.ppm_tickets.specs.Lawful.{Closed}
use Rattle.ppm_tickets.specs.View as spots
use Rattle.ppm_frames.specs.Views.{view}
use Rattle.ppm_frames.specs.Skeletons.{Skeleton, count, at}
use Rattle.ppm_frames.specs.Good.{Good}
use Rattle.ppm_kept.specs.Kept.{carried}
use Rattle.ppm_kept.specs.Places.{kinds_of}

-- The words show the tree of this skeleton: its frames and blocks stand in them, and no address is two words of it. A
-- place has no more leaves in it than its restart kind has strands, one or none; and as many, but for a place that is
-- closed, with whose strand another may have gone on.
pub record Shows (s : Shape) (code : CodeParts) (words : List ℕ) (t : Skeleton) : Type 0 where
  pub good : Good code (view s words) (kinds_of s words) Root t
  pub apart : (x : ℕ) → count Root t x ≤ 1
  pub most : (p : ℕ) → at p t ≤ carried (view s words) (kinds_of s words p)
  pub each : (p : ℕ) → (Closed s.takeover (spots.view s words) p → ⊥) → at p t ≡ carried (view s words) (kinds_of s words p)

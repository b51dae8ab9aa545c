-- The words of a tree that its frames' half doesn't look at: headers in use are numbers of capsules, and
-- what is over has an outcome.
use Rattle.std.specs.Prelude.{◌≡◌, ◌<◌, ℕ, ◌+◌, Some, length}
use Rattle.ppm_cells.specs.Finish.{finish_of, IsOutcome}
use Rattle.ppm_cells.specs.declared.cell.Cell.{Cell}
use Rattle.ppm_cells.specs.declared.cell.Cell.TheVariants.{BlockWord}
use Rattle.ppm_cells.specs.declared.finish.Finish.{Finish}
use Rattle.ppm_cells.specs.declared.link.LinkKind.{LinkKind}
use Rattle.ppm_cells.specs.declared.link.LinkKind.TheVariants.{Call as Called, Branch}
use Rattle.ppm_cells.specs.declared.side.Side.TheVariants.{Left, Right}
use Rattle.ppm_code.specs.declared.code.CodeParts.{CodeParts}
use Rattle.ppm_frames.specs.Skeletons.{Stand, Begins, Over, Arrives, Skeleton, Leaf, Calling, Forking, header, arrival}

-- the word says an outcome
abbrev pub SaysOutcome : ℕ → Type 0
SaysOutcome word = (finish : Finish) × (finish_of word ≡ Some finish) × IsOutcome finish

-- of a strand: the header of its copy is a capsule's number, or its outcome is one
abbrev pub IsWellLeaf : CodeParts → (Cell → ℕ) → LinkKind → Stand → (frame : ℕ) → Type 0
IsWellLeaf code m h (Begins y) f = m (BlockWord (header f y)) < length code.capsules
IsWellLeaf code m h Over f = SaysOutcome (m (BlockWord (f + 1)))
IsWellLeaf code m h Arrives f = SaysOutcome (arrival m h)

-- each strand of the whole tree is well, and frames that wait have their headers
abbrev pub IsWell : CodeParts → (Cell → ℕ) → LinkKind → Skeleton → Type 0
IsWell code m h (Leaf w st f n) = IsWellLeaf code m h st f
IsWell code m h (Calling f n y t) = (m (BlockWord (header f y)) < length code.capsules) × IsWell code m (Called f y) t
IsWell code m h (Forking f n y r a b) = (m (BlockWord (header f y)) < length code.capsules)
    × IsWell code m (Branch Left r) a × IsWell code m (Branch Right r) b

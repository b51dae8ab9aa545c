-- The values of two branches pass to the frame that waits for them, each into the slot that is
-- named, if one is.
use Rattle.std.specs.Prelude.{◌≡◌, ◌⊎◌, ℕ, ◌+◌, Some}
use Rattle.ppm_strands.specs.Tree.{Words}
use Rattle.ppm_strands.specs.Run.{none}
use Rattle.ppm_strands.specs.Ahead.{Step}
use Rattle.ppm_cells.specs.Finish.{finish_of}
use Rattle.ppm_cells.specs.declared.cell.Cell.{Cell}
use Rattle.ppm_cells.specs.declared.cell.Cell.TheVariants.{BlockWord}
use Rattle.ppm_cells.specs.declared.finish.Finish.TheVariants.{Ended}
use Rattle.ppm_cells.specs.declared.link.LinkKind.{LinkKind}
use Rattle.ppm_strands.specs.Strand.{code_of}
use Rattle.ppm_code.specs.Locations.{code_locations}
use Rattle.ppm_code.specs.Sizes.{slot_at, value_at}
use Rattle.ppm_code.specs.Strands.{table_of}
use Rattle.ppm_code.specs.declared.code.CodeParts.{CodeParts}
use Rattle.ppm_frames.specs.Laws.{IsInSlot}
use Rattle.ppm_frames.specs.Views.{written}
use Rattle.ppm_frames.specs.Skeletons.{Begins, Arrives, Who, InPlace, Skeleton, Leaf, Forking, target_at, tree_at}

-- a fork whose branches have come
abbrev pub come_both : (a b : Who) (g l y r f na nb : ℕ) → Skeleton
come_both a b g l y r f na nb = Forking g l y r (Leaf a Arrives (r + 5) na) (Leaf b Arrives f nb)

-- what it reads of them
pub record BranchesStay (m n : Cell → ℕ) (r f : ℕ) : Type 0 where
  pub left : n (BlockWord (r + 2)) ≡ m (BlockWord (r + 2))
  pub right : n (BlockWord (r + 3)) ≡ m (BlockWord (r + 3))
  pub left_value : n (BlockWord (r + 5 + value_at)) ≡ m (BlockWord (r + 5 + value_at))
  pub right_value : n (BlockWord (f + value_at)) ≡ m (BlockWord (f + value_at))
  pub left_target : n (BlockWord (r + 5 + 5)) ≡ m (BlockWord (r + 5 + 5))
  pub right_target : n (BlockWord (f + 5)) ≡ m (BlockWord (f + 5))

-- both values pass, each by a store that is a step of the tree, and then the join
pub record BranchValuesPass (code : CodeParts) (words : ℕ) (m : Cell → ℕ) (a b : Who) (g l y r f na nb : ℕ) (h : LinkKind) (x : Words) : Type 0 where
  -- a store of any word into the slot of the left value, and into that of the right one, is a step
  pub left : (slot w : ℕ) → target_at m (r + 5) ≡ Some slot
      → BranchesStay m (written m (BlockWord (g + slot_at slot)) w) r f
      → Step (code_of code_locations (table_of code words)) none (tree_at m h (come_both a b g l y r f na nb)) x
      (tree_at (written m (BlockWord (g + slot_at slot)) w) h (come_both a b g l y r f na nb)) x
  pub right : (slot w : ℕ) → target_at m f ≡ Some slot
      → BranchesStay m (written m (BlockWord (g + slot_at slot)) w) r f
      → Step (code_of code_locations (table_of code words)) none (tree_at m h (come_both a b g l y r f na nb)) x
      (tree_at (written m (BlockWord (g + slot_at slot)) w) h (come_both a b g l y r f na nb)) x
  -- the install is the join: the right value stands, and the left one does or both have one target
  pub joins : IsInSlot m (r + 5) g l (target_at m (r + 5)) ⊎ (target_at m (r + 5) ≡ target_at m f)
      → IsInSlot m f g l (target_at m f)
      → Step (code_of code_locations (table_of code words)) none (tree_at m h (come_both a b g l y r f na nb)) x (tree_at m h (Leaf (InPlace 0) (Begins y) g l)) x

-- where both branches ended
abbrev pub AllBranchValuesPass : Type 0
AllBranchValuesPass = (code : CodeParts) (words : ℕ) (m : Cell → ℕ) (a b : Who) (g l y r f na nb : ℕ) (h : LinkKind) (x : Words)
    → finish_of (m (BlockWord (r + 2))) ≡ Some Ended
    → finish_of (m (BlockWord (r + 3))) ≡ Some Ended
    → BranchValuesPass code words m a b g l y r f na nb h x

-- What is true of trees of strands in the words of a machine.
use Rattle.std.specs.Prelude.{◌≡◌, ◌≢◌, ◌⊎◌, ◌<◌, ℕ, ◌+◌, true, false, List, Option, Some, None}
use Rattle.ppm_cells.specs.Cells.{IsCell}
use Rattle.ppm_cells.specs.Memory.{write, AreWordsOf}
use Rattle.ppm_cells.specs.declared.cell.Cell.{Cell}
use Rattle.ppm_cells.specs.declared.shape.Shape.{Shape}
use Rattle.ppm_strands.specs.Capsule.{store}
use Rattle.ppm_code.specs.Locations.{Where, code_locations}
use Rattle.ppm_strands.specs.Tree.{Words, Code}
use Rattle.ppm_strands.specs.Run.{Counts, none}
use Rattle.ppm_strands.specs.Ahead.{Step}
use Rattle.ppm_cells.specs.declared.cell.Cell.TheVariants.{BlockWord}
use Rattle.ppm_cells.specs.declared.link.LinkKind.{LinkKind}
use Rattle.ppm_strands.specs.Strand.{Frame, code_of}
use Rattle.ppm_cells.specs.Finish.{finish_of}
use Rattle.ppm_cells.specs.declared.finish.Finish.TheVariants.{Ended, Trapped as TrappedBy}
use Rattle.ppm_words.specs.declared.trap.Trap.{Trap}
use Rattle.ppm_code.specs.Sizes.{slot_at, value_at}
use Rattle.ppm_code.specs.Strands.{Point, Result, table_of}
use Rattle.ppm_code.specs.declared.location.FrameWord.{FrameWord}
use Rattle.ppm_cells.specs.declared.restart.RestartKind.{RestartKind}
use Rattle.ppm_code.specs.declared.code.CodeParts.{CodeParts}
use Rattle.ppm_frames.specs.Skeletons.{Begins, Over, InPlace, Leaf, Calling, named, target_at, Skeleton, top, tree_at, Around, plug, hook_at, rim, at_rim}
use Rattle.ppm_frames.specs.Good.{ended, given, is_over, mark, Good}
use Rattle.ppm_frames.specs.Views.{written, is_cell, view}
use Rattle.ppm_frames.specs.Seen.{seen, cell_in, IsIn}

-- the words of the frame and of the block are apart
abbrev pub AreApart : (frame slots block size : ℕ) → Type 0
AreApart frame slots block size = (j o : ℕ) → j < 6 + slots → o < size → frame + j ≢ block + o

-- a store of a location is seen there, and nowhere else
abbrev pub StoresAreSeen : Type 0
StoresAreSeen = (m : Cell → ℕ) (frame slots block size v : ℕ) (l : Where)
    → AreApart frame slots block size → IsIn slots size l
    → seen (written m (cell_in frame block l) v) frame slots block size ≡ store code_locations (seen m frame slots block size) l v

-- a store of a cell that frames have changes the words by cells there alone
abbrev pub CellsAreViewed : Type 0
CellsAreViewed = (s : Shape) (words : List ℕ) (c : Cell) (w : ℕ) → AreWordsOf s words
    → is_cell s c ≡ true → view s (write s words c w) ≡ written (view s words) c w

-- and a store of any other cell is not seen
abbrev pub OthersAreUnseen : Type 0
OthersAreUnseen = (s : Shape) (words : List ℕ) (c : Cell) (w : ℕ) → IsCell s c → is_cell s c ≡ false
    → view s (write s words c w) ≡ view s words

-- words that are the same at the addresses that are counted
abbrev pub Same : (ℕ → ℕ) → (Cell → ℕ) → (Cell → ℕ) → Type 0
Same c m n = (x : ℕ) → (c x ≡ 0 → ⊥) → n (BlockWord x) ≡ m (BlockWord x)

-- a step of a part, in words that stay around it and where its head aims, is a step of the whole
-- tree
abbrev pub StepsPassUp : Type 0
StepsPassUp = (c : Code (Frame FrameWord Point) Result) (m n : Cell → ℕ) (k : Counts) (a b : Words) (h : LinkKind) (around : Around) (u v : Skeleton)
    → Same (rim h around) m n → top v ≡ top u
    → n (BlockWord (top u + 5)) ≡ m (BlockWord (top u + 5))
    → Step c k (tree_at m (hook_at h around) u) a (tree_at n (hook_at h around) v) b
    → Step c k (tree_at m h (plug around u)) a (tree_at n h (plug around v)) b

-- a part that aims where the old one did, with the same mark, and that gives what it gave or came
-- to give something, may be swapped in
pub record MaySwap (m n : Cell → ℕ) (h : LinkKind) (u v : Skeleton) : Type 0 where
  pub head : top v ≡ top u
  pub aim : n (BlockWord (top u + 5)) ≡ m (BlockWord (top u + 5))
  pub order : mark v ≡ mark u
  pub gives : ((is_over u ≡ false) × (given m h u ≡ ended))
      ⊎ ((is_over v ≡ is_over u) × (given n h v ≡ given m h u))

-- where words around the part stay, and what the places around it are at
abbrev pub PartsSwap : Type 0
PartsSwap = (code : CodeParts) (m n : Cell → ℕ) (k l : ℕ → RestartKind) (h : LinkKind) (c : Around) (u v : Skeleton)
    → Same (rim h c) m n → ((p : ℕ) → (at_rim p c ≡ 0 → ⊥) → l p ≡ k p)
    → MaySwap m n (hook_at h c) u v → Good code n l (hook_at h c) v
    → Good code m k h (plug c u) → Good code n l h (plug c v)

-- the outcome word of a frame that has no trap
abbrev pub IsWhole : (Cell → ℕ) → (frame : ℕ) → Type 0
IsWhole m f = finish_of (m (BlockWord (f + 1))) ≡ Some Ended

-- the value of a frame that was called is in the slot that its target names
abbrev pub IsInSlot : (Cell → ℕ) → (f g l : ℕ) → Option ℕ → Type 0
IsInSlot m f g l None = Unit {0}
IsInSlot m f g l (Some slot) = (slot < l)
    × (m (BlockWord (g + slot_at slot)) ≡ m (BlockWord (f + value_at)))

-- A frame that waits for another, by its table: with the other's value in the slot that is named it
-- goes on as it would have without, and then it stands in the words as the frame that goes on; a
-- trap goes on to it.
pub record ValuesPass (code : CodeParts) (words : ℕ) (m : Cell → ℕ) (g l y f n : ℕ) (h : LinkKind) (a : Words) : Type 0 where
  -- the store of the value is a step
  pub receives : (slot : ℕ) → named (m (BlockWord (f + 5))) ≡ Some slot → slot < l → IsWhole m f
      → ((j i : ℕ) → j < 6 + l → i < 6 + n → g + j ≢ f + i)
      → Step (code_of code_locations (table_of code words)) none (tree_at m h (Calling g l y (Leaf (InPlace 0) Over f n))) a
      (tree_at (written m (BlockWord (g + slot_at slot)) (m (BlockWord (f + value_at)))) h (Calling g l y (Leaf (InPlace 0) Over f n))) a
  -- the install is a return
  pub returns : IsWhole m f → IsInSlot m f g l (target_at m f)
      → Step (code_of code_locations (table_of code words)) none (tree_at m h (Calling g l y (Leaf (InPlace 0) Over f n))) a (tree_at m h (Leaf (InPlace 0) (Begins y) g l)) a
  -- a trap passes to the caller as well, where it stands in both outcome words
  pub traps : (trap : Trap) (line : ℕ)
      → finish_of (m (BlockWord (f + 1))) ≡ Some (TrappedBy trap line)
      → m (BlockWord (g + 1)) ≡ m (BlockWord (f + 1))
      → Step (code_of code_locations (table_of code words)) none (tree_at m h (Calling g l y (Leaf (InPlace 0) Over f n))) a (tree_at m h (Leaf (InPlace 0) Over g l)) a

-- of all such frames
abbrev pub AllValuesPass : Type 0
AllValuesPass = (code : CodeParts) (words : ℕ) (m : Cell → ℕ) (g l y f n : ℕ) (h : LinkKind) (a : Words) → ValuesPass code words m g l y f n h a

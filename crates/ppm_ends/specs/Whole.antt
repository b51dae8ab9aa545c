-- A whole capsule of a frame, in the machine's words: from a frame that shows, by the stores of its
-- end, to the tree that the strands open.
use Rattle.std.specs.Prelude.{◌≡◌, ◌⊎◌, ◌≤◌, ◌<◌, ℕ, ◌+◌, List, length}
use Rattle.ppm_strands.specs.Tree.{Words}
use Rattle.ppm_cells.specs.Memory.{read}
use Rattle.ppm_cells.specs.declared.cell.Cell.TheVariants.{BlockWord}
use Rattle.ppm_cells.specs.declared.shape.Shape.{Shape}
use Rattle.ppm_strands.specs.Capsule.{Memory, ending, leaves}
use Rattle.ppm_strands.specs.Strand.{Own, New, Frame, start, code_of}
use Rattle.ppm_code.specs.Capsules.{capsule_of}
use Rattle.ppm_code.specs.Code.{IsCode}
use Rattle.ppm_code.specs.Locations.{Where, code_locations}
use Rattle.ppm_code.specs.Sizes.{slot_at, value_at, slots_at}
use Rattle.ppm_code.specs.Strands.{Point, instrs_of, table_of}
use Rattle.ppm_code.specs.Tidy.{IsTidy}
use Rattle.ppm_code.specs.declared.act.End.{End}
use Rattle.ppm_code.specs.declared.code.CodeParts.{CodeParts}
use Rattle.ppm_code.specs.declared.location.FrameWord.{FrameWord}
use Rattle.ppm_code.specs.declared.location.FrameWord.TheVariants.{Slot, Value}
use Rattle.ppm_step.specs.Frames.{puts}
use Rattle.ppm_step.specs.declared.frame.Home.{Home}
use Rattle.ppm_slots.specs.Trim.{IsTrim, AreTrim}
use Rattle.ppm_ends.specs.Shown.{block_size, after_puts, shown}

-- the words are those of a memory, on the slots of a frame and on a block of so many words, which
-- lie apart
pub record HoldSlots (s : Shape) (home : Home) (slots size : ℕ) (words : List ℕ) (m : Memory Where) : Type 0 where
  pub slot : (i : ℕ) → i < slots
      → m (Own (Slot i)) ≡ read s words (BlockWord (home.frame + slot_at i))
  pub value : m (Own Value) ≡ read s words (BlockWord (home.frame + value_at))
  pub new : (o : ℕ) → o < size → m (New o) ≡ read s words (BlockWord (home.block + o))
  pub frame_within : home.frame + 6 + slots ≤ length words
  pub block_within : home.block + size ≤ length words
  pub apart : (home.frame + 6 + slots ≤ home.block) ⊎ (home.block + size ≤ home.frame)

module _ (code : CodeParts) (array_words : ℕ) (f : Frame FrameWord Point) (a : Words) where
  -- the end of the frame's capsule, and its memory then
  abbrev pub end_of : End
  end_of = ending code_locations (capsule_of array_words (instrs_of code f.point.capsule)) (start code_locations (table_of code array_words) f a)

  -- what it leaves
  abbrev pub memory_of : Memory Where
  memory_of = leaves code_locations (capsule_of array_words (instrs_of code f.point.capsule)) (start code_locations (table_of code array_words) f a)

-- Where the words hold what the whole capsule of a frame leaves, the stores of its end make them
-- show the tree that comes next, all of whose frames have no words after their slots again.
abbrev pub CapsulesShow : Type 0
CapsulesShow = (s : Shape) (code : CodeParts) (array_words : ℕ) (home : Home) (f : Frame FrameWord Point) (a : Words) (words : List ℕ)
    → IsCode code → IsTidy code → f.point.capsule < length code.capsules → IsTrim code f
    → HoldSlots s home (slots_at code f.point.capsule) (block_size code (end_of code array_words f a)) words (memory_of code array_words f a)
    → ((code_of code_locations (table_of code array_words)).next f a
    ≡ shown s home (slots_at code f.point.capsule) (after_puts s (puts code home (end_of code array_words f a)) words) code (end_of code array_words f a))
    × AreTrim code ((code_of code_locations (table_of code array_words)).next f a)

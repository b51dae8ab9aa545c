-- The strand that the words of a machine show in a frame.
use Rattle.std.specs.Prelude.{ℕ, ◌+◌, nat_lt, if◌then◌else◌, List, map, get_or}
use Rattle.ppm_strands.specs.Tree.{Tree, Strand}
use Rattle.ppm_strands.specs.Strand.{Frame}
use Rattle.ppm_words.specs.declared.named_array.NamedArray.{NamedArray}
use Rattle.ppm_cells.specs.Memory.{read}
use Rattle.ppm_cells.specs.Region.{region_word}
use Rattle.ppm_cells.specs.declared.cell.Cell.TheVariants.{BlockWord}
use Rattle.ppm_cells.specs.declared.shape.Shape.{Shape}
use Rattle.ppm_code.specs.declared.code.CodeParts.{CodeParts}
use Rattle.ppm_code.specs.declared.location.FrameWord.{FrameWord}
use Rattle.ppm_code.specs.declared.location.FrameWord.TheVariants.{Slot, Value}
use Rattle.ppm_code.specs.Sizes.{slot_at, value_at}
use Rattle.ppm_code.specs.Strands.{Point, Result, at_capsule, root_of}
use Rattle.ppm_layout.specs.Opening.{whole_array}

-- the words of a frame's own, with so many slots
abbrev pub own_at : Shape → List ℕ → (slots frame : ℕ) → FrameWord → ℕ
own_at s words slots frame (Slot slot) = if nat_lt slot slots then read s words (BlockWord (frame + slot_at slot)) else 0
own_at s words slots frame Value = read s words (BlockWord (frame + value_at))

-- the strand of a frame that is to run the capsule in its first header
abbrev pub strand_at : Shape → List ℕ → (slots frame : ℕ) → Tree (Frame FrameWord Point) Result
strand_at s words slots frame =
    Strand (record { own = own_at s words slots frame; point = at_capsule (read s words (BlockWord (frame + 2))) })

-- what the root begins with: the regions of its arrays in its first slots, and 0 in the others
abbrev pub root_own : CodeParts → List NamedArray → FrameWord → ℕ
root_own code input (Slot slot) = get_or (map (λ number. region_word (whole_array input number)) code.arrays) slot 0
root_own code input Value = 0

-- the strand with which a run begins
abbrev pub root_strand : CodeParts → List NamedArray → Tree (Frame FrameWord Point) Result
root_strand code input = root_of code (root_own code input)

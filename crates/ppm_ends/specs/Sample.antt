-- A fork of two procedures, of which one has two slots and the other one, in a block at 10.
use Rattle.std.specs.Prelude.{◌≡◌, ℕ, ◌+◌, List, [], ◌∷◌, ◌++◌, None, replicate, slice_index}
use Rattle.ppm_cells.specs.Link.{link_word}
use Rattle.ppm_cells.specs.Memory.{read}
use Rattle.ppm_cells.specs.declared.cell.Cell.TheVariants.{BlockWord}
use Rattle.ppm_cells.specs.declared.link.LinkKind.TheVariants.{Branch}
use Rattle.ppm_cells.specs.declared.shape.Shape.{Shape}
use Rattle.ppm_cells.specs.declared.side.Side.TheVariants.{Right}
use Rattle.ppm_strands.specs.Capsule.{Memory}
use Rattle.ppm_strands.specs.Strand.{Own, New, Shared, opened}
use Rattle.ppm_code.specs.Locations.{Where, code_locations}
use Rattle.ppm_code.specs.Sizes.{slot_at}
use Rattle.ppm_code.specs.Strands.{at_capsule, table_of}
use Rattle.ppm_code.specs.declared.act.End.{End}
use Rattle.ppm_code.specs.declared.act.End.TheVariants.{Fork}
use Rattle.ppm_code.specs.declared.code.CodeParts.{CodeParts}
use Rattle.ppm_code.specs.declared.location.FrameWord.TheVariants.{Slot}
use Rattle.ppm_layout.specs.Root.{own_at}
use Rattle.ppm_step.specs.Frames.{puts}
use Rattle.ppm_step.specs.declared.frame.Home.{Home}
use Rattle.ppm_ends.specs.Shown.{after_puts, shown}

-- two procedures, with two slots and with one
abbrev pub sample : CodeParts
sample = record {
  root = 0;
  arrays = [];
  procedures = record { slots = 2; entry = 3 } ∷ record { slots = 1; entry = 4 } ∷ [];
  capsules = [];
}

-- a frame at 0, whose block lies at 10
abbrev pub sample_home : Home
sample_home = record { frame = 0; copy = 0; block = 10 }

-- the fork of both
abbrev pub sample_fork : End
sample_fork = Fork 0 1 2 None None

-- all words were 7 but for the two target words; the frame has four slots
abbrev pub sample_words : List ℕ
sample_words = replicate 20 7 ++ 0 ∷ replicate 7 7 ++ 0 ∷ 7 ∷ []

-- what the capsule has before its end
abbrev pub sample_memory : Shape → Memory Where
sample_memory s (Own w) = own_at s sample_words 4 0 w
sample_memory s (New o) = slice_index sample_words (10 + o)
sample_memory s (Shared x) = 0

-- the words after the end's stores
abbrev pub sample_after : Shape → List ℕ
sample_after s = after_puts s (puts sample sample_home sample_fork) sample_words

-- The tree is shown. The word after the left frame's slots was 7, and is then the right frame's
-- link; both trees have 0 there.
pub record IsForkShown (s : Shape) : Type 0 where
  pub tree : opened code_locations (table_of sample 0) (at_capsule 0) sample_fork (sample_memory s)
      ≡ shown s sample_home 4 (sample_after s) sample sample_fork
  pub slot : own_at s (sample_after s) 2 15 (Slot 1) ≡ 7
  pub behind : own_at s (sample_after s) 2 15 (Slot 2) ≡ 0
  pub before : read s sample_words (BlockWord (15 + slot_at 2)) ≡ 7
  pub after : read s (sample_after s) (BlockWord (15 + slot_at 2)) ≡ link_word (record { kind = Branch Right 10; size = 7 })

-- in any shape
abbrev pub ForkIsShown : Type 0
ForkIsShown = (s : Shape) → IsForkShown s

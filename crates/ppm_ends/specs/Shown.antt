-- The tree that the machine's words show where the end of a capsule has made all its stores.
use Rattle.std.specs.Prelude.{◌≡◌, ◌⊎◌, ◌≤◌, ◌<◌, ℕ, zero, suc, ◌+◌, List, [], ◌∷◌, Option, Some, None, length}
use Rattle.ppm_strands.specs.Tree.{Tree, Strand, Call as Calling, Fork as Forking, Over}
use Rattle.ppm_cells.specs.Memory.{read, write}
use Rattle.ppm_cells.specs.declared.cell.Cell.TheVariants.{BlockWord}
use Rattle.ppm_cells.specs.declared.shape.Shape.{Shape}
use Rattle.ppm_strands.specs.Capsule.{Memory}
use Rattle.ppm_strands.specs.Strand.{Own, New, Frame, opened}
use Rattle.ppm_code.specs.Locations.{Where, code_locations}
use Rattle.ppm_code.specs.Sizes.{slots_of, frame_size, fork_size, right_at, left_at}
use Rattle.ppm_code.specs.Strands.{Point, Result, Gave, Trapped, table_of}
use Rattle.ppm_code.specs.declared.act.End.{End}
use Rattle.ppm_code.specs.declared.act.End.TheVariants.{Next, Finish, Trap, Call, Fork}
use Rattle.ppm_code.specs.declared.code.CodeParts.{CodeParts}
use Rattle.ppm_code.specs.declared.location.FrameWord.{FrameWord}
use Rattle.ppm_layout.specs.Root.{own_at, strand_at}
use Rattle.ppm_step.specs.Contents.{word_of}
use Rattle.ppm_step.specs.Frames.{other_copy, puts}
use Rattle.ppm_step.specs.Points.{header_word, value_word, target_word, offset_word}
use Rattle.ppm_step.specs.declared.frame.Put.{Put}
use Rattle.ppm_step.specs.declared.frame.Home.{Home}

-- the words of the new block that an end builds
abbrev pub block_size : CodeParts → End → ℕ
block_size code (Next capsule) = 0
block_size code Finish = 0
block_size code (Trap trap line) = 0
block_size code (Call procedure capsule to) = frame_size code procedure
block_size code (Fork left right capsule left_to right_to) = fork_size code left right

-- the slot that a target word names
abbrev pub slot_named : ℕ → Option ℕ
slot_named zero = None
slot_named (suc slot) = Some slot

-- the target words of the frames in it are 0 before the end's stores
abbrev pub AreBlank : CodeParts → End → (ℕ → ℕ) → Type 0
AreBlank code (Next capsule) block = Unit {0}
AreBlank code Finish block = Unit {0}
AreBlank code (Trap trap line) block = Unit {0}
AreBlank code (Call procedure capsule to) block = block 5 ≡ 0
AreBlank code (Fork left right capsule left_to right_to) block = (block (left_at + 5) ≡ 0)
    × (block (right_at code left + 5) ≡ 0)

-- words after stores
abbrev pub after_puts : Shape → List Put → List ℕ → List ℕ
after_puts s [] words = words
after_puts s (p ∷ ps) words = after_puts s ps (write s words p.cell (word_of p.content))

module _ (s : Shape) (home : Home) (slots : ℕ) where
  -- the words are those of the memory of a frame with so many slots and of a block of so many
  -- words, which lie apart
  pub record AreWordsOf (size : ℕ) (words : List ℕ) (m : Memory Where) : Type 0 where
    pub own : (w : FrameWord) → m (Own w) ≡ own_at s words slots home.frame w
    pub new : (o : ℕ) → o < size → m (New o) ≡ read s words (BlockWord (home.block + o))
    pub frame_within : home.frame + 6 + slots ≤ length words
    pub block_within : home.block + size ≤ length words
    pub apart : (home.frame + 6 + slots ≤ home.block) ⊎ (home.block + size ≤ home.frame)

  module _ (words : List ℕ) (code : CodeParts) where
    -- the frame, at the capsule in the header that was not in use
    abbrev pub frame_at : (left_to to : Option ℕ) → Frame FrameWord Point
    frame_at left_to to = record {
      own = own_at s words slots home.frame;
      point = record { capsule = read s words (header_word home.frame (other_copy home.copy)); left_to = left_to; to = to };
    }

    -- the tree that the words show after the stores of an end
    abbrev pub shown : End → Tree (Frame FrameWord Point) Result
    shown (Next capsule) = Strand (frame_at None None)
    shown Finish = Over (Gave (read s words (value_word home.frame)))
    shown (Trap trap line) = Over (Trapped trap line)
    shown (Call procedure capsule to) =
        Calling (frame_at None (slot_named (read s words (target_word home.block)))) (strand_at s words (slots_of code procedure) home.block)
    shown (Fork left right capsule left_to right_to) =
        let left_frame = home.block + left_at in
        let right_frame = home.block + read s words (offset_word home.block) in
        Forking
        (frame_at (slot_named (read s words (target_word left_frame))) (slot_named (read s words (target_word right_frame))))
        (strand_at s words (slots_of code left) left_frame) (strand_at s words (slots_of code right) right_frame)

-- it is the tree that the end opens
abbrev pub EndsShow : Type 0
EndsShow = (s : Shape) (code : CodeParts) (array_words : ℕ) (home : Home) (slots : ℕ) (point : Point) (e : End) (words : List ℕ) (m : Memory Where)
    → AreWordsOf s home slots (block_size code e) words m → AreBlank code e (λ o. m (New o))
    → opened code_locations (table_of code array_words) point e m ≡ shown s home slots (after_puts s (puts code home e) words) code e

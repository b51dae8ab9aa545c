-- Frames of a code that have no words but their slots and their value.
use Rattle.std.specs.Prelude.{◌≡◌, ◌<◌, ◌≤◌, ℕ, IfSome, map, get_or}
use Rattle.ppm_strands.specs.Tree.{Words, Tree, Strand, Call, Fork, Over}
use Rattle.ppm_strands.specs.Capsule.{Memory, In, written}
use Rattle.ppm_strands.specs.Strand.{Own, Frame, code_of}
use Rattle.ppm_code.specs.Code.{IsCode}
use Rattle.ppm_code.specs.Capsules.{capsule_of}
use Rattle.ppm_code.specs.Locations.{Where, code_locations}
use Rattle.ppm_code.specs.Strands.{Point, Result, kept, resume, root_of, table_of, instrs_of}
use Rattle.ppm_code.specs.declared.code.CodeParts.{CodeParts}
use Rattle.ppm_code.specs.declared.location.FrameWord.{FrameWord}
use Rattle.ppm_code.specs.declared.location.FrameWord.TheVariants.{Slot}
use Rattle.ppm_code.specs.Sizes.{slots_at}

module _ (code : CodeParts) where
  -- a frame has 0 after its slots, and the targets that it waits with are slots
  pub record IsTrim (f : Frame FrameWord Point) : Type 0 where
    pub behind : (i : ℕ) → slots_at code f.point.capsule ≤ i → f.own (Slot i) ≡ 0
    pub left_target : IfSome f.point.left_to (λ slot. slot < slots_at code f.point.capsule)
    pub target : IfSome f.point.to (λ slot. slot < slots_at code f.point.capsule)

  -- all frames of a tree
  abbrev pub AreTrim : Tree (Frame FrameWord Point) Result → Type 0
  AreTrim (Strand f) = IsTrim f
  AreTrim (Call g t) = IsTrim g × AreTrim t
  AreTrim (Fork g l r) = IsTrim g × AreTrim l × AreTrim r
  AreTrim (Over o) = Unit {0}

  -- Such are the root's frame, which has a word for each of its arrays and 0 in the other slots, the
  -- frames that a capsule opens, and the frame with the value of a left branch or of what it waited
  -- for. A capsule's stores into its frame are to slots, so it is one in between too.
  pub record StayTrim (array_words : ℕ) : Type 0 where
    pub root : (word_at : ℕ → ℕ) (own : FrameWord → ℕ)
        → ((i : ℕ) → own (Slot i) ≡ get_or (map word_at code.arrays) i 0) → AreTrim (root_of code own)
    pub opens : (f : Frame FrameWord Point) (a : Words) → IsTrim f
        → AreTrim ((code_of code_locations (table_of code array_words)).next f a)
    pub keeps : (f : Frame FrameWord Point) (o : Result) → IsTrim f → IsTrim (kept f o)
    pub goes_on : (f : Frame FrameWord Point) (o : Result) → IsTrim f → AreTrim (resume f o)
    pub stores : (number i : ℕ) (m : Memory Where)
        → In (Own (Slot i)) (written code_locations (capsule_of array_words (instrs_of code number)) m)
        → i < slots_at code number

-- of each code that keeps its rules
abbrev pub FramesStayTrim : Type 0
FramesStayTrim = (code : CodeParts) (array_words : ℕ) → IsCode code → StayTrim code array_words

-- The frames that wait in the stack, and the tree of strands that stack and frames show.
use Rattle.std.specs.Prelude.{◌≡◌, ◌<◌, ◌≤◌, ℕ, ◌+◌, List, [], ◌∷◌, ◌++◌, Option, None, IfSome, get_or, length}
use Rattle.ppm_strands.specs.Tree.{Tree, Strand, Call, Fork, Over}
use Rattle.ppm_strands.specs.Strand.{Frame as StrandFrame}
use Rattle.ppm_code.specs.Sizes.{slots_at, size_at}
use Rattle.ppm_code.specs.declared.code.CodeParts.{CodeParts}
use Rattle.ppm_code.specs.declared.location.FrameWord.{FrameWord}
use Rattle.ppm_code.specs.declared.location.FrameWord.TheVariants.{Slot, Value}
use Rattle.ppm_code.specs.Strands.{Point, Result, Gave, Trapped}
use Rattle.ppm_depth.specs.Store.{own_at}
use Rattle.ppm_depth.specs.declared.frame.Frame.{Frame}
use Rattle.ppm_depth.specs.declared.frame.Finish.{Finish}
use Rattle.ppm_depth.specs.declared.frame.Finish.TheVariants as finish
use Rattle.ppm_depth.specs.declared.frame.For.{For}
use Rattle.ppm_depth.specs.declared.frame.For.TheVariants as for
use Rattle.ppm_depth.specs.declared.frame.Waiting.{Waiting}
use Rattle.ppm_depth.specs.declared.frame.Now.{Now}
use Rattle.ppm_depth.specs.declared.frame.Now.TheVariants as now

-- a frame of the code's strands, and their trees
abbrev pub Own : Type 0
Own = StrandFrame FrameWord Point

abbrev pub Strands : Type 0
Strands = Tree Own Result

-- the result that is said by how a frame is over
abbrev pub result_of : Finish → Result
result_of (finish.Gave value) = Gave value
result_of (finish.Trapped trap line) = Trapped trap line

-- a frame that waits: for its callee, for its left branch, with the frame of its right one, for its right branch, with the left result
pub data Waits : Type 0 where
  ForCallee : Own → Waits
  ForLeft : Own → Own → Waits
  ForRight : Own → Result → Waits

-- the tree of which a tree is what it waits for
abbrev pub waits_for : Waits → Strands → Strands
waits_for (ForCallee f) t = Call f t
waits_for (ForLeft f r) t = Fork f t (Strand r)
waits_for (ForRight f o) t = Fork f (Over o) t

-- all that waits above a strand, as it stands in the stack and in the tree, the innermost first
pub data Above : Type 0 where
  Root : Above
  On : Waiting → Waits → Above → Above

-- the list of it, the innermost last
abbrev pub listed : Above → List Waiting
listed Root = []
listed (On w v s) = listed s ++ (w ∷ [])

-- the whole tree
abbrev pub tree_at : Above → Strands → Strands
tree_at Root t = t
tree_at (On w v s) t = tree_at s (waits_for v t)

module _ (code : CodeParts) where
  -- the word after a frame
  abbrev pub end_of : Frame → ℕ
  end_of frame = frame.base + size_at code frame.capsule

  -- a slot that a frame has
  abbrev pub IsTarget : Frame → Option ℕ → Type 0
  IsTarget frame to = IfSome to (λ slot. slot < slots_at code frame.capsule)

  -- the stack holds the words of a frame, which takes values in these slots
  pub record Holds (blocks : List ℕ) (frame : Frame) (left_to to : Option ℕ) (f : Own) : Type 0 where
    pub there : frame.capsule < length code.capsules
    pub point : f.point ≡ record { capsule = frame.capsule; left_to = left_to; to = to }
    pub left_target : IsTarget frame left_to
    pub target : IsTarget frame to
    pub slot : (i : ℕ) → i < slots_at code frame.capsule → f.own (Slot i) ≡ get_or blocks (own_at frame.base (Slot i)) 0
    pub value : f.own Value ≡ get_or blocks (own_at frame.base Value) 0

  -- a frame that waits, in the stack and in the tree; a right branch that is to begin lies between two words
  abbrev pub AreOne : List ℕ → (low high : ℕ) → Frame → For → Waits → Type 0
  AreOne blocks low high frame (for.Callee to) (ForCallee f) = Holds blocks frame None to f
  AreOne blocks low high frame (for.Left right left_to to) (ForLeft f r) =
      Holds blocks frame left_to to f × Holds blocks right None None r × (low ≤ right.base) × (end_of right ≤ high)
  AreOne blocks low high frame (for.Right left left_to to) (ForRight f o) = Holds blocks frame left_to to f × (o ≡ result_of left)
  AreOne blocks low high frame _ _ = ⊥

  -- all that waits lies below a word of the stack, and outside a frame that begins and ends at two others
  abbrev pub IsLaidOut : List ℕ → Above → (begin end top : ℕ) → Type 0
  IsLaidOut blocks Root begin end top = Unit {0}
  IsLaidOut blocks (On w v s) begin end top =
      (w.block ≤ begin) × (end_of w.frame ≤ w.block) × AreOne blocks end top w.frame w.on v
      × IsLaidOut blocks s w.frame.base (end_of w.frame) w.block

  -- what the strand does now, below what waits
  abbrev pub IsNow : List ℕ → Now → Above → Strands → Type 0
  IsNow blocks (now.At frame) s t =
      (f : Own) × (t ≡ Strand f) × Holds blocks frame None None f × (end_of frame ≤ length blocks)
      × IsLaidOut blocks s frame.base (end_of frame) (length blocks)
  IsNow blocks (now.Over finish) s t =
      (t ≡ Over (result_of finish)) × (begin : ℕ) × (end : ℕ) × (begin ≤ end) × (end ≤ length blocks)
      × IsLaidOut blocks s begin end (length blocks)

  -- stack, frames that wait and what is done now show a tree
  pub record IsShown (blocks : List ℕ) (waiting : List Waiting) (current : Now) (t : Strands) : Type 0 where
    pub above : Above
    pub waits : listed above ≡ waiting
    pub leaf : Strands
    pub tree : t ≡ tree_at above leaf
    pub at : IsNow blocks current above leaf

  -- stack, frames that wait and what is done now show these frames above this leaf
  pub record IsShownAt (blocks : List ℕ) (waiting : List Waiting) (current : Now) (s : Above) (leaf : Strands) : Type 0 where
    pub waits : listed s ≡ waiting
    pub at : IsNow blocks current s leaf

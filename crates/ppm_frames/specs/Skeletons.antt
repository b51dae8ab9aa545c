-- The frames and blocks of a tree of strands, the tree that stands on them in the words, and what
-- each install makes of them.
use Rattle.std.specs.Prelude.{ℕ, zero, suc, ◌+◌, ◌==◌, leb, ltb, cond, Bool, false, Option, Some, None}
use Rattle.ppm_strands.specs.Tree.{Tree, Strand, Call, Fork}
use Rattle.ppm_strands.specs.Tree as tree
use Rattle.ppm_cells.specs.Finish.{finish_of}
use Rattle.ppm_cells.specs.declared.cell.Cell.{Cell}
use Rattle.ppm_cells.specs.declared.cell.Cell.TheVariants.{BlockWord}
use Rattle.ppm_cells.specs.declared.finish.Finish.{Finish}
use Rattle.ppm_cells.specs.declared.finish.Finish.TheVariants.{Trapped as TrappedBy}
use Rattle.ppm_cells.specs.declared.link.LinkKind.{LinkKind}
use Rattle.ppm_cells.specs.declared.link.LinkKind.TheVariants.{Root, Call as Called, Branch}
use Rattle.ppm_cells.specs.declared.side.Side.TheVariants.{Left, Right}
use Rattle.ppm_strands.specs.Strand.{Frame}
use Rattle.ppm_code.specs.Sizes.{value_at}
use Rattle.ppm_code.specs.Strands.{Point, Result, Gave, Trapped}
use Rattle.ppm_code.specs.declared.location.FrameWord.{FrameWord}
use Rattle.ppm_frames.specs.Seen.{own_at}

-- what a strand does: it is at the beginning of a capsule, with a copy of the header; it is over;
-- its outcome stands at its fork block
pub data Stand : Type 0 where
  Begins : ℕ → Stand
  Over : Stand
  Arrives : Stand

-- whose a leaf is: a place's that runs it; or what a branch that no place runs is
pub data Who : Type 0 where
  InPlace : ℕ → Who
  Fresh : Who  -- a right branch whose fork is not pushed yet
  Waiting : Who  -- one that may be taken
  Held : Who  -- one that the strand of the left branch runs next
  Came : Who  -- a branch that came first to its join
  Inlined : Who  -- a left branch whose strand runs the right one

-- The frames and blocks of a tree by their addresses, each frame with the number of its slots: a
-- strand; a frame that waits for its callee, and the copy with which it goes on; one that waits for
-- the two branches of a block.
pub data Skeleton : Type 0 where
  Leaf : Who → Stand → (frame slots : ℕ) → Skeleton
  Calling : (frame slots copy : ℕ) → Skeleton → Skeleton
  Forking : (frame slots copy block : ℕ) → Skeleton → Skeleton → Skeleton

-- the header of a copy; copies are 0 and 1
abbrev pub header : (frame copy : ℕ) → ℕ
header f zero = f + 2
header f (suc y) = f + 3

-- the frame at its top
abbrev pub top : Skeleton → ℕ
top (Leaf w st f n) = f
top (Calling f n y t) = f
top (Forking f n y r a b) = f

-- the slot that a target word names
abbrev pub named : ℕ → Option ℕ
named zero = None
named (suc slot) = Some slot

-- the slot of the caller in which a frame's value goes, by its target word
abbrev pub target_at : (Cell → ℕ) → (frame : ℕ) → Option ℕ
target_at m f = named (m (BlockWord (f + 5)))

-- a frame at its address, with so many slots
abbrev pub frame_at : (Cell → ℕ) → (f n y : ℕ) → (left_to to : Option ℕ) → Frame FrameWord Point
frame_at m f n y left_to to = record { own = own_at m f n; point = record { capsule = m (BlockWord (header f y)); left_to = left_to; to = to } }

-- the outcome that a branch has stored in its fork block
abbrev pub arrival : (Cell → ℕ) → LinkKind → ℕ
arrival m (Branch Left r) = m (BlockWord (r + 2))
arrival m (Branch Right r) = m (BlockWord (r + 3))
arrival m _ = 0

-- how a frame is over, by its value and its outcome
abbrev pub result_by : (value : ℕ) → Option Finish → Result
result_by v (Some (TrappedBy trap line)) = Trapped trap line
result_by v _ = Gave v

-- by its value word and an outcome word
abbrev pub result_at : (Cell → ℕ) → (f outcome : ℕ) → Result
result_at m f o = result_by (m (BlockWord (f + value_at))) (finish_of o)

-- what stands at a leaf that hangs on a link
abbrev pub leaf_of : (Cell → ℕ) → LinkKind → Stand → (f n : ℕ) → Tree (Frame FrameWord Point) Result
leaf_of m h (Begins y) f n = Strand (frame_at m f n y None None)
leaf_of m h Over f n = tree.Over (result_at m f (m (BlockWord (f + 1))))
leaf_of m h Arrives f n = tree.Over (result_at m f (arrival m h))

-- what stands in the words, hung on a link; a frame that waits takes values where the frames below
-- it aim
abbrev pub tree_at : (Cell → ℕ) → LinkKind → Skeleton → Tree (Frame FrameWord Point) Result
tree_at m h (Leaf w st f n) = leaf_of m h st f n
tree_at m h (Calling f n y t) = Call (frame_at m f n y None (target_at m (top t))) (tree_at m (Called f y) t)
tree_at m h (Forking f n y r a b) =
    Fork (frame_at m f n y (target_at m (top a)) (target_at m (top b))) (tree_at m (Branch Left r) a) (tree_at m (Branch Right r) b)

-- the tree of the root
abbrev pub tree_of : (Cell → ℕ) → Skeleton → Tree (Frame FrameWord Point) Result
tree_of m t = tree_at m Root t

-- how often an address is a word of the tree; a branch has the outcome word of its fork block
abbrev pub inside : (f n x : ℕ) → ℕ
inside f n x = cond (leb f x) (cond (ltb x (f + n)) 1 0) 0

-- the outcome word that a branch has in its fork block
abbrev pub hung : LinkKind → ℕ → ℕ
hung (Branch Left r) x = inside (r + 2) 1 x
hung (Branch Right r) x = inside (r + 3) 1 x
hung _ x = 0

-- the frames, and of a fork block its link, its order and the offset
abbrev pub count : LinkKind → Skeleton → ℕ → ℕ
count h (Leaf w st f n) x = hung h x + inside f (6 + n) x
count h (Calling f n y t) x = hung h x + (inside f (6 + n) x + count (Called f y) t x)
count h (Forking f n y r a b) x = hung h x + (inside f (6 + n) x + (inside r 1 x + (inside (r + 1) 1 x + (inside (r + 4) 1 x + (count (Branch Left r) a x + count (Branch Right r) b x)))))

-- how often an address is a word of the tree, but for the order words
abbrev pub plain : LinkKind → Skeleton → ℕ → ℕ
plain h (Leaf w st f n) x = hung h x + inside f (6 + n) x
plain h (Calling f n y t) x = hung h x + (inside f (6 + n) x + plain (Called f y) t x)
plain h (Forking f n y r a b) x = hung h x + (inside f (6 + n) x + (inside r 1 x + (inside (r + 4) 1 x + (plain (Branch Left r) a x + plain (Branch Right r) b x))))

-- how often a place has a leaf
abbrev pub is_at : ℕ → Who → ℕ
is_at p (InPlace q) = cond (q == p) 1 0
is_at p _ = 0

-- the leaves of place p in a tree
abbrev pub at : ℕ → Skeleton → ℕ
at p (Leaf w st f n) = is_at p w
at p (Calling f n y t) = at p t
at p (Forking f n y r a b) = at p a + at p b

-- whether a tree is the leaf of place p
abbrev pub holds : ℕ → Skeleton → Bool
holds p (Leaf (InPlace q) st f n) = q == p
holds p _ = false

-- the leaf of a place goes on as u says
abbrev pub grow_leaf : (p : ℕ) → (Stand → ℕ → ℕ → Skeleton) → Who → Stand → (f n : ℕ) → Skeleton
grow_leaf p u (InPlace q) st f n = cond (q == p) (u st f n) (Leaf (InPlace q) st f n)
grow_leaf p u w st f n = Leaf w st f n

-- wherever it is in the tree
abbrev pub grow : ℕ → (Stand → ℕ → ℕ → Skeleton) → Skeleton → Skeleton
grow p u (Leaf w st f n) = grow_leaf p u w st f n
grow p u (Calling f n y t) = Calling f n y (grow p u t)
grow p u (Forking f n y r a b) = Forking f n y r (grow p u a) (grow p u b)

-- the frame that waited for the callee at a place goes on there
abbrev pub back : ℕ → (ℕ → Stand) → Skeleton → Skeleton
back p k (Leaf w st f n) = Leaf w st f n
back p k (Calling f n y t) = cond (holds p t) (Leaf (InPlace p) (k y) f n) (Calling f n y (back p k t))
back p k (Forking f n y r a b) = Forking f n y r (back p k a) (back p k b)

-- the frame of a fork whose last branch came at a place goes on there
abbrev pub joined : ℕ → (ℕ → Stand) → Skeleton → Skeleton
joined p k (Leaf w st f n) = Leaf w st f n
joined p k (Calling f n y t) = Calling f n y (joined p k t)
joined p k (Forking f n y r a b) = cond (holds p a) (Leaf (InPlace p) (k y) f n)
    (cond (holds p b) (Leaf (InPlace p) (k y) f n) (Forking f n y r (joined p k a) (joined p k b)))

-- the fork whose left branch is a place's
abbrev pub over_left : ℕ → ((frame slots copy block : ℕ) → Skeleton → Skeleton → Skeleton)
    → Skeleton → Skeleton
over_left p e (Leaf w st f n) = Leaf w st f n
over_left p e (Calling f n y t) = Calling f n y (over_left p e t)
over_left p e (Forking f n y r a b) = cond (holds p a) (e f n y r a b) (Forking f n y r (over_left p e a) (over_left p e b))

-- its right branch waits, or is held
abbrev pub readied : Who → Skeleton → Skeleton
readied w (Leaf Fresh st f n) = Leaf w st f n
readied w t = t

-- the fork that is pushed
abbrev pub pushed : Who → (frame slots copy block : ℕ) → Skeleton → Skeleton → Skeleton
pushed w f n y r a b = Forking f n y r a (readied w b)

-- its strand goes on with the right branch
abbrev pub passed : Skeleton → Skeleton
passed (Leaf w st f n) = Leaf Inlined st f n
passed t = t

-- the right branch, which is held, is the place's
abbrev pub roused : ℕ → Skeleton → Skeleton
roused p (Leaf Held st f n) = Leaf (InPlace p) st f n
roused p t = t

-- the fork of which one strand runs both branches, at the place p
abbrev pub inlined : ℕ → (frame slots copy block : ℕ) → Skeleton → Skeleton → Skeleton
inlined p f n y r a b = Forking f n y r (passed a) (roused p b)

-- a right branch that waits is the place's
abbrev pub awake : ℕ → Skeleton → Skeleton
awake p (Leaf Waiting st f n) = Leaf (InPlace p) st f n
awake p t = t

-- in the tree, the right branch of block r is the place's
abbrev pub take_in : (r p : ℕ) → Skeleton → Skeleton
take_in r p (Leaf w st f n) = Leaf w st f n
take_in r p (Calling f n y t) = Calling f n y (take_in r p t)
take_in r p (Forking f n y q a b) = cond (q == r) (Forking f n y q a (awake p b)) (Forking f n y q (take_in r p a) (take_in r p b))

-- the tree around one of its parts
pub data Around : Type 0 where
  Top : Around
  AtCall : (frame slots copy : ℕ) → Around → Around
  AtLeft : (frame slots copy block : ℕ) → Around → Skeleton → Around
  AtRight : (frame slots copy block : ℕ) → Skeleton → Around → Around

-- the tree with a part put in
abbrev pub plug : Around → Skeleton → Skeleton
plug Top u = u
plug (AtCall f n y c) u = Calling f n y (plug c u)
plug (AtLeft f n y r c b) u = Forking f n y r (plug c u) b
plug (AtRight f n y r a c) u = Forking f n y r a (plug c u)

-- the link on which the part hangs
abbrev pub hook_at : LinkKind → Around → LinkKind
hook_at h Top = h
hook_at h (AtCall f n y c) = hook_at (Called f y) c
hook_at h (AtLeft f n y r c b) = hook_at (Branch Left r) c
hook_at h (AtRight f n y r a c) = hook_at (Branch Right r) c

-- how often an address is a word of the tree around the part
abbrev pub rim : LinkKind → Around → ℕ → ℕ
rim h Top x = 0
rim h (AtCall f n y c) x = hung h x + (inside f (6 + n) x + rim (Called f y) c x)
rim h (AtLeft f n y r c b) x = hung h x + (inside f (6 + n) x + (inside r 1 x + (inside (r + 1) 1 x + (inside (r + 4) 1 x + (rim (Branch Left r) c x + count (Branch Right r) b x)))))
rim h (AtRight f n y r a c) x = hung h x + (inside f (6 + n) x + (inside r 1 x + (inside (r + 1) 1 x + (inside (r + 4) 1 x + (count (Branch Left r) a x + rim (Branch Right r) c x)))))

-- how often an address is a word of the tree around the part, but for the order words
abbrev pub plain_rim : LinkKind → Around → ℕ → ℕ
plain_rim h Top x = 0
plain_rim h (AtCall f n y c) x = hung h x + (inside f (6 + n) x + plain_rim (Called f y) c x)
plain_rim h (AtLeft f n y r c b) x = hung h x + (inside f (6 + n) x + (inside r 1 x + (inside (r + 4) 1 x + (plain_rim (Branch Left r) c x + plain (Branch Right r) b x))))
plain_rim h (AtRight f n y r a c) x = hung h x + (inside f (6 + n) x + (inside r 1 x + (inside (r + 4) 1 x + (plain (Branch Left r) a x + plain_rim (Branch Right r) c x))))

-- the leaves of place p around the part
abbrev pub at_rim : ℕ → Around → ℕ
at_rim p Top = 0
at_rim p (AtCall f n y c) = at_rim p c
at_rim p (AtLeft f n y r c b) = at_rim p c + at p b
at_rim p (AtRight f n y r a c) = at p a + at_rim p c

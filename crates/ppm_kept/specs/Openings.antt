-- The words of an opening: the root frame, clean pools, and a tree without races.
use Rattle.std.specs.Prelude.{◌≡◌, ◌≤◌, ◌<◌, ℕ, ◌+◌, Bool, true, List}
use Rattle.ppm_strands.specs.Run.{Counts, none}
use Rattle.ppm_strands.specs.Calm.{Calm}
use Rattle.ppm_cells.specs.declared.cell.Cell.{Cell}
use Rattle.ppm_cells.specs.declared.cell.Cell.TheVariants.{FinishWord, RoomCounter, BlockWord}
use Rattle.ppm_cells.specs.declared.link.LinkKind.TheVariants.{Root}
use Rattle.ppm_cells.specs.declared.restart.RestartKind.TheVariants.{Run, Seek}
use Rattle.ppm_words.specs.declared.named_array.NamedArray.{NamedArray}
use Rattle.ppm_cells.specs.Cells.{pool_at}
use Rattle.ppm_cells.specs.declared.shape.Shape.{Shape}
use Rattle.ppm_code.specs.Sizes.{slots_of, slots_at, frame_size}
use Rattle.ppm_code.specs.declared.code.CodeParts.{CodeParts}
use Rattle.ppm_layout.specs.Correct.{Opens}
use Rattle.ppm_layout.specs.Root.{root_strand}
use Rattle.ppm_layout.specs.declared.images.Image.{Image}
use Rattle.ppm_frames.specs.Views.{view}
use Rattle.ppm_frames.specs.Seen.{arrays_at}
use Rattle.ppm_frames.specs.Skeletons.{Begins, InPlace, Leaf, tree_of}
use Rattle.ppm_frames.specs.Good.{ended, link_at}
use Rattle.ppm_kept.specs.Running.{strands}
use Rattle.ppm_kept.specs.Kept.{Setting, start, end_of, Resting, NoOutcome, State, put, IsKept}

-- the words m have a frame at f, in the pool of place p, with n slots, and no pool has given out more
-- than the root's; above the counters they are 0; and the root's tree is calm
pub record Opening (i : Setting) (m : Cell → ℕ) (p f n : ℕ) : Type 0 where
  pub there : p < i.shape.processors
  pub uncounted : i.counted none ≡ true
  pub link : link_at (m (BlockWord f)) ≡ record { size = 6 + n; kind = Root }
  pub entry : slots_at i.code (m (BlockWord (f + 2))) ≡ n
  pub outcome : m (BlockWord (f + 1)) ≡ ended
  pub first : start i p ≤ f
  pub within : f + (6 + n) ≤ end_of i p
  pub room : m (RoomCounter p) ≡ f + (6 + n)
  pub finish : NoOutcome (m FinishWord)
  pub rooms : (q : ℕ) → (start i q ≤ m (RoomCounter q)) × (m (RoomCounter q) ≤ end_of i q)
  pub small : (q : ℕ) → m (RoomCounter q) ≤ start i q + frame_size i.code i.code.root
  pub blank : (q o : ℕ) → m (RoomCounter q) + o < end_of i q
      → m (BlockWord (m (RoomCounter q) + o)) ≡ 0
  pub calm : Calm (strands i.shape i.code) (tree_of m (Leaf (InPlace p) (Begins 0) f n)) (arrays_at m)

-- place p is to run that frame, all others seek
abbrev pub opening_of : (Cell → ℕ) → (p f : ℕ) → State
opening_of m p f = record { words = m; kind = put (λ q. Seek) p (Run f 0); doing = λ q. Resting }

-- each opening is kept, with the root's frame alone as its tree
abbrev pub OpeningsAreKept : Type 0
OpeningsAreKept = (i : Setting) (m : Cell → ℕ) (p f n : ℕ) → Opening i m p f n
    → IsKept i (tree_of m (Leaf (InPlace p) (Begins 0) f n)) (arrays_at m) (opening_of m p f) (Leaf (InPlace p) (Begins 0) f n)

-- each image of a sound code opens so, whatever is asked of the counts, if it is true where nothing is counted,
-- with the tree of the root's strand
abbrev pub ImagesOpen : Type 0
ImagesOpen = (code : CodeParts) (input : List NamedArray) (s : Shape) (keeper : ℕ) (image : Image) → Opens code input s keeper image
    → Calm (strands s code) (root_strand code input) (arrays_at (view s image.words))
    → ((asked : Counts → Bool) → asked none ≡ true → Opening (record { shape = s; code = code; counted = asked }) (view s image.words) keeper (pool_at s keeper) (slots_of code code.root))
    × (tree_of (view s image.words) (Leaf (InPlace keeper) (Begins 0) (pool_at s keeper) (slots_of code code.root)) ≡ root_strand code input)

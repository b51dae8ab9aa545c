-- What a place goes on with that it inherited, with takeover by entries: the strand of a closed place
-- becomes the heir's, and the closed place's pool is given up.
use Rattle.std.specs.Prelude.{◌≡◌, ◌⊎◌, ◌<◌, ℕ, ◌+◌, ◌==◌, ◌&&◌, nat_le, nat_lt, cond}
use Rattle.ppm_strands.specs.Tree.{Words, Tree}
use Rattle.ppm_cells.specs.declared.cell.Cell.{Cell}
use Rattle.ppm_cells.specs.declared.cell.Cell.TheVariants.{RoomCounter, BlockWord}
use Rattle.ppm_cells.specs.declared.link.LinkKind.{LinkKind}
use Rattle.ppm_cells.specs.declared.link.LinkKind.TheVariants.{Call as Called, Fork as Forked}
use Rattle.ppm_cells.specs.declared.restart.RestartKind.{RestartKind}
use Rattle.ppm_cells.specs.declared.restart.RestartKind.TheVariants.{Run, Bump, Push1, Push2, Unwind, Arrive, Join, Seek}
use Rattle.ppm_strands.specs.Strand.{Frame}
use Rattle.ppm_code.specs.Strands.{Point, Result}
use Rattle.ppm_code.specs.declared.location.FrameWord.{FrameWord}
use Rattle.ppm_frames.specs.Skeletons.{InPlace, Skeleton, Leaf, grow}
use Rattle.ppm_frames.specs.Good.{link_at}
use Rattle.ppm_kept.specs.Running.{IsFair}
use Rattle.ppm_kept.specs.Branches.{Untaken}
use Rattle.ppm_kept.specs.Kept.{Setting, end_of, Resting, State, put, ceiling, IsKept}
use Rattle.ppm_kept.specs.Others.{IsIdle}

-- the leaf of place v becomes place p's
abbrev pub handed : (v p : ℕ) → Skeleton → Skeleton
handed v p t = grow v (λ st f n. Leaf (InPlace p) st f n) t

-- the words as they would be, had place v given out its pool up to c, and stored nothing above: nobody
-- looks at its counter any more, nor at its free words
abbrev pub settled : Setting → (Cell → ℕ) → (v c : ℕ) → Cell → ℕ
settled i m v c (RoomCounter q) = cond (q == v) c (m (RoomCounter q))
settled i m v c (BlockWord x) = cond (nat_le c x && nat_lt x (end_of i v)) 0 (m (BlockWord x))
settled i m v c cell = m cell

-- how the strand of a new block begins, by the block's link: the callee runs, or the fork is pushed
abbrev pub OpensAs : (block : ℕ) → LinkKind → RestartKind → Type 0
OpensAs r (Called g y) k = k ≡ Run r 0
OpensAs r (Forked g y) k = k ≡ Push1 r
OpensAs r _ k = ⊥

-- The kind with which the heir of place v goes on, where that was left at this one. Of Push2 the job
-- was made, and the left branch runs; or it was not, and the fork is pushed anew: which of the two the
-- deque's half says.
abbrev pub GoesOnAs : State → Skeleton → (v : ℕ) → (closed next : RestartKind) → Type 0
GoesOnAs s t v (Run f y) k = k ≡ Run f y
GoesOnAs s t v (Bump r) k = OpensAs r (link_at (s.words (BlockWord r))).kind k
GoesOnAs s t v (Push1 r) k = k ≡ Push1 r
GoesOnAs s t v (Push2 r) k = (k ≡ Run (r + 5) 0) ⊎ ((k ≡ Push1 r) × Untaken v r t)
GoesOnAs s t v (Unwind f) k = k ≡ Unwind f
GoesOnAs s t v (Arrive r d) k = k ≡ Arrive r d
GoesOnAs s t v (Join r d) k = k ≡ Join r d
GoesOnAs s t v _ k = ⊥

-- the state after that: place p is at the kind, and place v at nothing
abbrev pub inherits : Setting → State → (v p : ℕ) → RestartKind → State
inherits i s v p k = record {
  words = settled i s.words v (ceiling i s.words v (s.kind v));
  kind = put (put s.kind v Seek) p k;
  doing = put s.doing p Resting;
}

-- From words that are kept, where nobody is in the closed place v, and p has no strand: they are kept
-- after it, with the strand as p's.
abbrev pub HeirsKeep : Type 0
HeirsKeep = (i : Setting) → IsFair i.code
    → (root : Tree (Frame FrameWord Point) Result) (input : Words) (s : State) (t : Skeleton)
    → IsKept i root input s t
    → (v p : ℕ) → v < i.shape.processors → p < i.shape.processors → IsIdle (s.kind p)
    → s.doing v ≡ Resting → (k : RestartKind) → GoesOnAs s t v (s.kind v) k
    → IsKept i root input (inherits i s v p k) (handed v p t)

-- What places give out of their pools.
use Rattle.std.specs.Prelude.{◌≤◌, ℕ, ◌+◌}
use Rattle.ppm_strands.specs.Tree.{Words, Tree}
use Rattle.ppm_strands.specs.Run.{End, Ends}
use Rattle.ppm_strands.specs.Strand.{Frame}
use Rattle.ppm_code.specs.Sizes.{frame_size}
use Rattle.ppm_code.specs.Strands.{Point, Result}
use Rattle.ppm_code.specs.declared.location.FrameWord.{FrameWord}
use Rattle.ppm_frames.specs.Skeletons.{Skeleton}
use Rattle.ppm_kept.specs.Running.{strands}
use Rattle.ppm_kept.specs.Kept.{Setting, start, ceiling, State, IsKept}

-- whatever places do, none gives out more of its pool than the depth-first run takes of all: the root's
-- frame and the block words that it counts to its end
abbrev pub RoomIsBounded : Type 0
RoomIsBounded = (i : Setting) (root : Tree (Frame FrameWord Point) Result) (input : Words) (s : State) (t : Skeleton)
    → IsKept i root input s t → (end : End Result) → Ends (strands i.shape i.code) root input end → (p : ℕ)
    → ceiling i s.words p (s.kind p) ≤ start i p + (frame_size i.code i.code.root + end.counts.block_words)

-- Where a place finds its pool full, the depth-first run takes more words than a pool has.
use Rattle.std.specs.Prelude.{◌≡◌, ◌<◌, ℕ, ◌+◌}
use Rattle.ppm_strands.specs.Tree.{Words, Tree}
use Rattle.ppm_strands.specs.Run.{End, Ends}
use Rattle.ppm_cells.specs.declared.cell.Cell.TheVariants.{RoomCounter}
use Rattle.ppm_cells.specs.declared.restart.RestartKind.TheVariants.{Run}
use Rattle.ppm_strands.specs.Strand.{Frame}
use Rattle.ppm_code.specs.Sizes.{frame_size}
use Rattle.ppm_code.specs.Strands.{Point, Result}
use Rattle.ppm_code.specs.declared.location.FrameWord.{FrameWord}
use Rattle.ppm_step.specs.Frames.{Rest, Loads, Full}
use Rattle.ppm_frames.specs.Skeletons.{Skeleton}
use Rattle.ppm_kept.specs.Running.{IsFair, strands}
use Rattle.ppm_kept.specs.Kept.{Setting, InRest, State, IsKept}

-- From words that are kept: where the capsule of a frame is about to load the room counter of its place,
-- and finds the pool full by the word that is there, the root's frame and the block words that the
-- depth-first run counts to its end are more than a pool has.
abbrev pub FullPoolsAreSpent : Type 0
FullPoolsAreSpent = (i : Setting) → IsFair i.code
    → (root : Tree (Frame FrameWord Point) Result) (input : Words) (s : State) (t : Skeleton)
    → IsKept i root input s t
    → (p f y : ℕ) → s.kind p ≡ Run f y
    → (next : ℕ → Rest) → s.doing p ≡ InRest (Loads (RoomCounter p) next) → next (s.words (RoomCounter p)) ≡ Full
    → (end : End Result) → Ends (strands i.shape i.code) root input end
    → i.shape.room < frame_size i.code i.code.root + end.counts.block_words

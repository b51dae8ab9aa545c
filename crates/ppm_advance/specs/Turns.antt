-- A turn of a run leaves the tree so that it advances.
use Rattle.std.specs.Prelude.{◌≡◌, ℕ, ◌+◌, List}
use Rattle.ppm_strands.specs.Tree.{Words, Tree}
use Rattle.ppm_cells.specs.declared.cell.Cell.TheVariants.{BlockWord}
use Rattle.ppm_cells.specs.declared.restart.RestartKind.TheVariants.{Arrive}
use Rattle.ppm_cells.specs.declared.side.Side.TheVariants.{Left}
use Rattle.ppm_strands.specs.Strand.{Frame}
use Rattle.ppm_code.specs.Strands.{Point, Result}
use Rattle.ppm_code.specs.declared.location.FrameWord.{FrameWord}
use Rattle.ppm_step.specs.State.{State as Machine, stand_of}
use Rattle.ppm_step.specs.declared.turn.Turn.{Turn}
use Rattle.ppm_frames.specs.Skeletons.{Fresh, Skeleton}
use Rattle.ppm_kept.specs.Running.{IsFair}
use Rattle.ppm_kept.specs.Kept.{Setting, State, IsKept}
use Rattle.ppm_kept.specs.Left.{Followed, left, StepsAway}
use Rattle.ppm_kept.specs.Places.{places_of}
use Rattle.ppm_kept.specs.Steps.{act_with, ActsSo}
use Rattle.ppm_kept.specs.Unruns.{HasUnrun}
use Rattle.ppm_advance.specs.Advance.{Advances}

-- no left branch is about to come first beside a right one that isn't pushed
abbrev pub LeftIsLater : State → Skeleton → Type 0
LeftIsLater s t = (p r : ℕ) → s.kind p ≡ Arrive r Left → s.words (BlockWord (r + 1)) ≡ 0 → HasUnrun Fresh r t → ⊥

-- With either takeover, of the state with the followed places left out: a turn by which no place goes on with what it inherited leaves a tree
-- that advances, if the tree advanced before, and no left branch comes first beside a right one that isn't pushed.
abbrev pub TurnsAdvance : Type 0
TurnsAdvance = (i : Setting) → IsFair i.code → (root : Tree (Frame FrameWord Point) Result) (input : Words) (state : Machine) (l : List Followed)
    → (t : Skeleton) → IsKept i root input (left i l (places_of i.shape state)) t → (turn : Turn)
    → ActsSo i state t turn.processor turn.act (stand_of state turn.processor)
    → StepsAway i l turn.act (stand_of state turn.processor)
    → LeftIsLater (left i l (places_of i.shape state)) t
    → Advances t → Advances (act_with i (left i l (places_of i.shape state)).words state.words turn.act (stand_of state turn.processor) t)

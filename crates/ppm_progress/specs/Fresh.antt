-- A right branch that was not forked yet is beside the place that is to fork it; and no left branch comes first beside a right one that isn't pushed.
-- A branch is forked as Bump installs Push1, and pushed as it becomes a job, or is left to the strand of the left one.
use Rattle.std.specs.Prelude.{◌≡◌, ℕ, List, ◌++◌}
use Rattle.ppm_strands.specs.Tree.{Words, Tree}
use Rattle.ppm_cells.specs.declared.restart.RestartKind.TheVariants.{Bump}
use Rattle.ppm_cells.specs.declared.shape.Shape.{Shape}
use Rattle.ppm_strands.specs.Strand.{Frame}
use Rattle.ppm_code.specs.Strands.{Point, Result}
use Rattle.ppm_code.specs.declared.code.CodeParts.{CodeParts}
use Rattle.ppm_code.specs.declared.location.FrameWord.{FrameWord}
use Rattle.ppm_step.specs.Among.{IsTurnAmong}
use Rattle.ppm_step.specs.State.{State as RunState, stand_of, happens, forks_of, takes_of}
use Rattle.ppm_step.specs.declared.turn.Turn.{Turn}
use Rattle.ppm_tickets.specs.Along.{by_act}
use Rattle.ppm_tickets.specs.Homes.{Home, Unborn}
use Rattle.ppm_frames.specs.Skeletons.{Fresh, Skeleton}
use Rattle.ppm_kept.specs.Running.{IsFair}
use Rattle.ppm_kept.specs.Fates.{Agrees}
use Rattle.ppm_kept.specs.Kept.{owner}
use Rattle.ppm_kept.specs.Left.{Followed, left}
use Rattle.ppm_kept.specs.Places.{places_of}
use Rattle.ppm_kept.specs.Steps.{act_with}
use Rattle.ppm_kept.specs.Unruns.{HasUnrun}
use Rattle.ppm_runs.specs.Run.{setting, fate_of}
use Rattle.ppm_runs.specs.Follow.{IsHalves}
use Rattle.ppm_runs.specs.Joint.{AreJoint, StepsAlone}
use Rattle.ppm_advance.specs.Turns.{LeftIsLater}

-- of a right branch that was not forked yet, the place whose pool has its block is about to fork it
abbrev pub FreshAtBump : (s : Shape) (code : CodeParts) → RunState → (ℕ → Home) → List Followed → Skeleton → Type 0
FreshAtBump s code state h l t = (r : ℕ) → HasUnrun Fresh r t → h r ≡ Unborn
    → (left (setting s code) l (places_of s state)).kind (owner (setting s code) r) ≡ Bump r

-- then no left branch comes first beside a right one that isn't pushed
abbrev pub LeftComesLater : Type 0
LeftComesLater = (s : Shape) (code : CodeParts) → IsFair code
    → (root : Tree (Frame FrameWord Point) Result) (input : Words) (state : RunState) (h : ℕ → Home) (forked taken : List ℕ)
    → (l : List Followed) (t : Skeleton)
    → IsHalves s code root input state h forked taken l t → Agrees t (λ r. fate_of (h r)) → FreshAtBump s code state h l t
    → LeftIsLater (left (setting s code) l (places_of s state)) t

-- the places of branches that were not forked are still so after each turn by which no place goes on with what it inherited
abbrev pub FreshStay : Type 0
FreshStay = (s : Shape) (code : CodeParts) → IsFair code
    → (root : Tree (Frame FrameWord Point) Result) (input : Words) (state : RunState) (h : ℕ → Home) (forked taken : List ℕ)
    → (l : List Followed) (t : Skeleton)
    → IsHalves s code root input state h forked taken l t → AreJoint s code state h l t → FreshAtBump s code state h l t
    → (turn : Turn) → IsTurnAmong s.processors turn → StepsAlone s.takeover turn.act (stand_of state turn.processor)
    → IsHalves s code root input (happens s code state turn) (by_act s state.words turn.act (stand_of state turn.processor) h)
    (forks_of state turn ++ forked) (takes_of state turn ++ taken) l
    (act_with (setting s code) (left (setting s code) l (places_of s state)).words state.words turn.act (stand_of state turn.processor) t)
    → FreshAtBump s code (happens s code state turn) (by_act s state.words turn.act (stand_of state turn.processor) h) l
    (act_with (setting s code) (left (setting s code) l (places_of s state)).words state.words turn.act (stand_of state turn.processor) t)

-- What a turn counts, exactly: the capsule that ends by it, and the fork that this capsule opens.
use Rattle.std.specs.Prelude.{◌≡◌, ℕ, ◌+◌, List}
use Rattle.ppm_strands.specs.Tree.{Words, Tree}
use Rattle.ppm_cells.specs.declared.cell.Cell.{Cell}
use Rattle.ppm_cells.specs.declared.cell.Cell.TheVariants.{BlockWord}
use Rattle.ppm_cells.specs.declared.link.LinkKind.{LinkKind}
use Rattle.ppm_cells.specs.declared.link.LinkKind.TheVariants.{Fork as Forked}
use Rattle.ppm_cells.specs.declared.restart.RestartKind.{RestartKind}
use Rattle.ppm_cells.specs.declared.restart.RestartKind.TheVariants.{Bump}
use Rattle.ppm_strands.specs.Strand.{Frame}
use Rattle.ppm_code.specs.Strands.{Point, Result}
use Rattle.ppm_code.specs.declared.location.FrameWord.{FrameWord}
use Rattle.ppm_step.specs.Frames.{Installs}
use Rattle.ppm_step.specs.Standings.{Standing, IsWithin, IsRunning}
use Rattle.ppm_step.specs.State.{State as Machine, stand_of, happens}
use Rattle.ppm_step.specs.declared.row.Row.TheVariants.{Now}
use Rattle.ppm_step.specs.declared.row.Seat.{Seat}
use Rattle.ppm_step.specs.declared.row.Then.{Then}
use Rattle.ppm_step.specs.declared.turn.Act.TheVariants.{Step}
use Rattle.ppm_step.specs.declared.turn.Turn.{Turn}
use Rattle.ppm_frames.specs.Good.{link_at}
use Rattle.ppm_frames.specs.Skeletons.{Skeleton}
use Rattle.ppm_kept.specs.Running.{IsFair}
use Rattle.ppm_kept.specs.Kept.{Setting, IsKept}
use Rattle.ppm_kept.specs.Credit.{ended_by, by_step}
use Rattle.ppm_kept.specs.Heirs.{handed}
use Rattle.ppm_kept.specs.HeirTurns.{Heired, and_followed}
use Rattle.ppm_kept.specs.Left.{Followed, left, AreApart, StepsAway}
use Rattle.ppm_kept.specs.Places.{places_of}
use Rattle.ppm_kept.specs.Steps.{act_with, ActsSo}

-- whether a block of this link is a fork's
abbrev pub is_fork : LinkKind → ℕ
is_fork (Forked g y) = 1
is_fork _ = 0

-- the forks of a capsule that ends with this kind, by what these words by cells show
abbrev pub forks_with : (Cell → ℕ) → RestartKind → ℕ
forks_with m (Bump r) = is_fork (link_at (m (BlockWord r))).kind
forks_with m _ = 0

-- of the capsule that ends by a step
abbrev pub opened_by : (Cell → ℕ) → Standing → ℕ
opened_by m (IsRunning seat (Installs kind)) = forks_with m kind
opened_by m standing = 0

-- With either takeover, of the state with the followed places left out: after a turn by which no place goes
-- on with what it inherited as many capsules and forks are counted as before, and those of the capsule that
-- ends by it.
abbrev pub CountsAreExact : Type 0
CountsAreExact = (i : Setting) → IsFair i.code
    → (root : Tree (Frame FrameWord Point) Result) (input : Words) (state : Machine) (l : List Followed)
    → AreApart l → (t : Skeleton)
    → (law : IsKept i root input (left i l (places_of i.shape state)) t) → (turn : Turn)
    → ActsSo i state t turn.processor turn.act (stand_of state turn.processor)
    → StepsAway i l turn.act (stand_of state turn.processor)
    → (kept : IsKept i root input (left i l (places_of i.shape (happens i.shape i.code state turn)))
    (act_with i (left i l (places_of i.shape state)).words state.words turn.act (stand_of state turn.processor) t))
    × (kept.ahead.0.capsules ≡ law.ahead.0.capsules + by_step ended_by turn.act (stand_of state turn.processor))
    × (kept.ahead.0.forks ≡ law.ahead.0.forks + by_step (opened_by (left i l (places_of i.shape state)).words) turn.act (stand_of state turn.processor))

-- and by which one does, as many as before
abbrev pub HeirsCountNone : Type 0
HeirsCountNone = (i : Setting) → IsFair i.code
    → (root : Tree (Frame FrameWord Point) Result) (input : Words) (state : Machine) (l : List Followed)
    → AreApart l → (t : Skeleton)
    → (law : IsKept i root input (left i l (places_of i.shape state)) t)
    → (c victim : ℕ) (seat : Seat) (next : Then) (v : ℕ) → stand_of state c ≡ IsWithin seat (Now next)
    → Heired i state l t c seat next v
    → (kept : IsKept i root input
    (left i (and_followed i l (places_of i.shape state) v) (places_of i.shape (happens i.shape i.code state (record { processor = c; act = Step victim }))))
    (handed v seat.place t))
    × (kept.ahead.0.capsules ≡ law.ahead.0.capsules) × (kept.ahead.0.forks ≡ law.ahead.0.forks)

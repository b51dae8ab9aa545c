-- What a tree of strands still owes for word steps: of a frame that is not over those of its return, and of a branch that has not
-- arrived those of its join. Each turn pays what it takes off, and takes on no more than a capsule allows; and capsules are counted.
use Rattle.std.specs.Prelude.{◌≡◌, ◌≤◌, ℕ, ◌+◌, ◌*◌, List}
use Rattle.ppm_strands.specs.Tree.{Words, Tree}
use Rattle.ppm_cells.specs.declared.link.LinkKind.{LinkKind}
use Rattle.ppm_cells.specs.declared.link.LinkKind.TheVariants.{Root, Call as Called, Branch}
use Rattle.ppm_cells.specs.declared.shape.Takeover.TheVariants.{ByPlaces}
use Rattle.ppm_cells.specs.declared.side.Side.TheVariants.{Left, Right}
use Rattle.ppm_strands.specs.Strand.{Frame}
use Rattle.ppm_code.specs.Strands.{Point, Result}
use Rattle.ppm_code.specs.declared.location.FrameWord.{FrameWord}
use Rattle.ppm_step.specs.Frames.{Installs}
use Rattle.ppm_step.specs.Standings.{Standing, IsWithin, IsRunning}
use Rattle.ppm_step.specs.State.{State as Machine, stand_of, happens}
use Rattle.ppm_step.specs.declared.row.Row.TheVariants.{Now}
use Rattle.ppm_step.specs.declared.turn.Act.{Act}
use Rattle.ppm_step.specs.declared.turn.Act.TheVariants.{Step}
use Rattle.ppm_step.specs.declared.turn.Turn.{Turn}
use Rattle.ppm_paces.specs.Costs.{weight}
use Rattle.ppm_frames.specs.Skeletons.{Stand, Begins, Over, Arrives, Skeleton, Leaf, Calling, Forking}
use Rattle.ppm_kept.specs.Running.{IsFair}
use Rattle.ppm_kept.specs.Heirs.{handed}
use Rattle.ppm_kept.specs.Kept.{Setting, IsKept}
use Rattle.ppm_kept.specs.Laws.{kind_then}
use Rattle.ppm_kept.specs.Left.{Followed, left, StepsAway}
use Rattle.ppm_kept.specs.Places.{places_of}
use Rattle.ppm_kept.specs.Steps.{act_with, tree_after, ActsSo}

-- of a branch 12, until it arrives
abbrev pub branch_due : LinkKind → ℕ
branch_due (Branch side block) = 12
branch_due _ = 0

-- of a frame 6, until it is over
abbrev pub stand_due : LinkKind → Stand → ℕ
stand_due h (Begins copy) = branch_due h + 6
stand_due h Over = branch_due h
stand_due h Arrives = 0

-- of a tree that hangs on a link
abbrev pub owed : LinkKind → Skeleton → ℕ
owed h (Leaf who stand frame slots) = stand_due h stand
owed h (Calling frame slots copy t) = branch_due h + (6 + owed (Called frame copy) t)
owed h (Forking frame slots copy block a b) = branch_due h + (6 + (owed (Branch Left block) a + owed (Branch Right block) b))

-- what the end of a row takes off
abbrev pub paid_by : Standing → ℕ
paid_by (IsWithin seat (Now next)) = weight seat.restart.kind (kind_then next)
paid_by _ = 0

-- the capsule that ends by a step
abbrev pub ended_by : Standing → ℕ
ended_by (IsRunning seat (Installs kind)) = 1
ended_by _ = 0

-- of an act; faults and quits take nothing off and end no capsule
abbrev pub by_step : (Standing → ℕ) → Act → Standing → ℕ
by_step f (Step victim) standing = f standing
by_step f act standing = 0

-- With what a turn takes off, the tree then owes no more than before, but for 36 where a capsule ends
abbrev pub CreditStays : Type 0
CreditStays = (i : Setting) → IsFair i.code → (root : Tree (Frame FrameWord Point) Result) (input : Words) (state : Machine) (t : Skeleton)
    → IsKept i root input (places_of i.shape state) t → (turn : Turn)
    → ActsSo i state t turn.processor turn.act (stand_of state turn.processor)
    → owed Root (tree_after i state turn t) + by_step paid_by turn.act (stand_of state turn.processor)
    ≤ owed Root t + 36 * by_step ended_by turn.act (stand_of state turn.processor)

-- With takeover by places, after a turn no fewer capsules are counted than before, and one more where a capsule ends
abbrev pub CapsulesAreCounted : Type 0
CapsulesAreCounted = (i : Setting) → IsFair i.code → i.shape.takeover ≡ ByPlaces
    → (root : Tree (Frame FrameWord Point) Result) (input : Words) (state : Machine) (t : Skeleton)
    → (law : IsKept i root input (places_of i.shape state) t) → (turn : Turn)
    → ActsSo i state t turn.processor turn.act (stand_of state turn.processor)
    → (kept : IsKept i root input (places_of i.shape (happens i.shape i.code state turn)) (tree_after i state turn t))
    × (law.ahead.0.capsules + by_step ended_by turn.act (stand_of state turn.processor) ≤ kept.ahead.0.capsules)

-- With either takeover, and the places left out that others have followed: by a turn by which no place goes on with what it inherited the
-- tree owes no more either
abbrev pub CreditStaysLeft : Type 0
CreditStaysLeft = (i : Setting) → IsFair i.code → (root : Tree (Frame FrameWord Point) Result) (input : Words) (state : Machine) (l : List Followed)
    → (t : Skeleton) → IsKept i root input (left i l (places_of i.shape state)) t → (turn : Turn)
    → ActsSo i state t turn.processor turn.act (stand_of state turn.processor)
    → StepsAway i l turn.act (stand_of state turn.processor)
    → owed Root (act_with i (left i l (places_of i.shape state)).words state.words turn.act (stand_of state turn.processor) t)
    + by_step paid_by turn.act (stand_of state turn.processor)
    ≤ owed Root t + 36 * by_step ended_by turn.act (stand_of state turn.processor)

-- nor where one does: who has a strand is all one
abbrev pub HandedOwes : Type 0
HandedOwes = (v p : ℕ) (t : Skeleton) → owed Root (handed v p t) ≡ owed Root t

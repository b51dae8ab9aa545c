-- What is told of a trap is the one of the serial meaning: its points and its traps belong together.
use Rattle.std.specs.Prelude.{◌≡◌}
use Rattle.ppm_tree.specs.Tree.{ProgramTree}
use Rattle.ppm_tree.specs.State.{TrapAt, Arrays}
use Rattle.ppm_tree.specs.Meaning.{Plain, Counts, Trapped}
use Rattle.ppm_tree.specs.Program.{values_of, initial_arrays, Means}
use Rattle.ppm_trapped.specs.Sites.{Point, TrapsAt}

-- Where a program traps at a point, its meaning is a run to that trap. A program has one (`have_one_end` of `ppm_tree`), so this is the trap that
-- `serial` gives.
abbrev pub TrapPointsTrap : Type 0
TrapPointsTrap = (t : ProgramTree) (z : Point) (stop : TrapAt) → TrapsAt t z stop
    → (k : Counts) × (a : Arrays) × Means Plain t (values_of (initial_arrays t)) k (Trapped stop a)

-- a program traps at one point at most
abbrev pub TrapPointsAreOne : Type 0
TrapPointsAreOne = (t : ProgramTree) (y z : Point) (s stop : TrapAt) → TrapsAt t y s → TrapsAt t z stop → y ≡ z

-- a program whose meaning is a run to a trap traps at a point with it
abbrev pub TrapsHavePoints : Type 0
TrapsHavePoints = (t : ProgramTree) (k : Counts) (stop : TrapAt) (a : Arrays) → Means Plain t (values_of (initial_arrays t)) k (Trapped stop a)
    → (z : Point) × TrapsAt t z stop

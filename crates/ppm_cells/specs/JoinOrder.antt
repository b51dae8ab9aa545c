-- The order word of a fork block: which branch arrived first, or that one strand runs both.
use Rattle.std.specs.Prelude.{◌≡◌, ◌⊎◌, ℕ, zero, ◌+◌, ◌≤◌}
use Rattle.ppm_cells.specs.declared.side.Side.{Side}
use Rattle.ppm_cells.specs.declared.side.Side.TheVariants.{Left, Right}
use Rattle.ppm_cells.specs.Sides.{side_number}

-- the branches of a fork
abbrev pub other : Side → Side
other Left = Right
other Right = Left

-- one strand runs both
abbrev pub both : ℕ
both = 3

-- this branch arrived first
abbrev pub first : Side → ℕ
first side = 1 + side_number side

-- the branch is last: the other one arrived first, or it is the right one of a strand that runs both
abbrev pub IsLast : (order : ℕ) → Side → Type 0
IsLast order Left = order ≡ first Right
IsLast order Right = (order ≡ first Left) ⊎ (order ≡ both)

-- its strand runs the other one next
abbrev pub IsInline : (order : ℕ) → Side → Type 0
IsInline order Left = order ≡ both
IsInline order Right = ⊥

-- the order word after an arrival: a compare-and-modify from 0
abbrev pub arrived : (order : ℕ) → Side → ℕ
arrived zero side = first side
arrived order side = order

-- the one lawful change: from 0 to one of the three others
abbrev pub Changes : (old new : ℕ) → Type 0
Changes old new = (old ≡ 0) × (1 ≤ new) × (new ≤ both)

-- what may have come of an order word since it was seen
abbrev pub Later : (old new : ℕ) → Type 0
Later old new = (old ≡ new) ⊎ Changes old new

-- The number of a branch of a fork.
use Rattle.std.specs.Prelude.{ℕ, ◌==◌, if◌then◌else◌}
use Rattle.ppm_cells.specs.declared.side.Side.{Side}
use Rattle.ppm_cells.specs.declared.side.Side.TheVariants.{Left, Right}

-- 0 is the left one, 1 the right one
abbrev pub side_number : Side → ℕ
side_number Left = 0
side_number Right = 1

-- the branch with a number
abbrev pub side_with : ℕ → Side
side_with number = if number == 0 then Left else Right

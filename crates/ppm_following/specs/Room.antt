-- What the pools of a machine have given out.
use Rattle.std.specs.Prelude.{ℕ, zero, suc, ◌-◌, nat_lt, if◌then◌else◌, List}
use Rattle.ppm_cells.specs.Cells.{pool_at}
use Rattle.ppm_cells.specs.Memory.{read}
use Rattle.ppm_cells.specs.declared.cell.Cell.TheVariants.{RoomCounter}
use Rattle.ppm_cells.specs.declared.shape.Shape.{Shape}

-- how many words the pool of a place has given out, by its room counter
abbrev pub given_by : Shape → (words : List ℕ) → (place : ℕ) → ℕ
given_by s words place = read s words (RoomCounter place) - pool_at s place

-- the larger of two numbers
abbrev pub larger : ℕ → ℕ → ℕ
larger a b = if nat_lt a b then b else a

-- the most that a pool has given out, of those of so many places
abbrev pub most_given : Shape → (words : List ℕ) → (places : ℕ) → ℕ
most_given s words zero = 0
most_given s words (suc n) = larger (most_given s words n) (given_by s words n)

-- Addresses and cells stand for each other.
use Rattle.std.specs.Prelude.{◌≡◌, ℕ, ◌<◌}
use Rattle.ppm_cells.specs.declared.shape.Shape.{Shape}
use Rattle.ppm_cells.specs.declared.cell.Cell.{Cell}
use Rattle.ppm_cells.specs.Cells.{word_count, address, IsCell}
use Rattle.ppm_naming.specs.Addresses.{addressed}

-- each address below the count is that of the cell found there, and each cell is found at its address
pub record AddressesName (s : Shape) : Type 0 where
  pub there : (at : ℕ) → at < word_count s → IsCell s (addressed s at) × (address s (addressed s at) ≡ at)
  pub back : (c : Cell) → IsCell s c → addressed s (address s c) ≡ c

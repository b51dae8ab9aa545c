-- Loads of what a path has stored before.
use Rattle.std.specs.Prelude.{ℕ, ◌+◌, List}
use Rattle.ppm_code.specs.declared.class.Class.TheVariants.{Slot}
use Rattle.ppm_code.specs.declared.class.May.TheVariants.{Write}
use Rattle.ppm_code.specs.declared.instr.Instr.{Instr}
use Rattle.ppm_code.specs.Paths.{Any, Does, Path}

-- a path comes to a place past this store of the slot
pub record IsStoredAt (is : List Instr) (slot at store : ℕ) : Type 0 where
  pub stores : Does is store (Write (Slot slot))
  pub before : Path is Any 0 store
  pub between : Path is Any (store + 1) at

-- past some store of it
abbrev pub IsStoredBefore : List Instr → (slot at : ℕ) → Type 0
IsStoredBefore is slot at = (store : ℕ) × IsStoredAt is slot at store

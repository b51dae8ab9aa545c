-- Words of the new block that are not stored, by their stores.
use Rattle.std.specs.Prelude.{◌≡◌, ◌≤◌, ℕ, List}
use Rattle.ppm_code.specs.declared.instr.Instr.{Instr}
use Rattle.ppm_filled.specs.Filled.{IsUnbuilt}
use Rattle.ppm_gaps.specs.declared.unbuilt.Unbuilt.{Unbuilt}

-- some path does not store the word that is stored there
abbrev pub HasUnbuilt : List Instr → (write : ℕ) → Type 0
HasUnbuilt is write = (stop word : ℕ) × IsUnbuilt is write stop word

-- one of this store, with the least stop
pub record IsFirstStopWithout (is : List Instr) (write : ℕ) (g : Unbuilt) : Type 0 where
  pub write_is : g.write ≡ write
  pub gap : IsUnbuilt is g.write g.stop g.word
  pub least_stop : (stop word : ℕ) → IsUnbuilt is g.write stop word → g.stop ≤ stop

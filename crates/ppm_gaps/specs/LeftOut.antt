-- Words that are left out, by their finds and stores.
use Rattle.std.specs.Prelude.{◌≡◌, ◌≤◌, ℕ, List}
use Rattle.ppm_code.specs.declared.class.Class.{Class}
use Rattle.ppm_code.specs.declared.instr.Instr.{Instr}
use Rattle.ppm_filled.specs.Filled.{IsLeftOut}
use Rattle.ppm_gaps.specs.declared.left_out.LeftOut.{LeftOut}

-- of this find and this store one is left out, and of this find
abbrev pub HasLeftOut : List Instr → (find write : ℕ) → Type 0
HasLeftOut is find write = (stop : ℕ) × (c : Class) × IsLeftOut is find write stop c

abbrev pub HasLeftOutOf : List Instr → (find : ℕ) → Type 0
HasLeftOutOf is find = (write : ℕ) × HasLeftOut is find write

-- one of this find and this store, with the least stop
pub record IsFirstOfWrite (is : List Instr) (find write : ℕ) (g : LeftOut) : Type 0 where
  pub find_is : g.find ≡ find
  pub write_is : g.write ≡ write
  pub gap : IsLeftOut is g.find g.write g.stop g.class
  pub least_stop : (stop : ℕ) (c : Class) → IsLeftOut is g.find g.write stop c → g.stop ≤ stop

-- one of this find, with the least store, and of this the least stop
pub record IsFirstOfFind (is : List Instr) (find : ℕ) (g : LeftOut) : Type 0 where
  pub find_is : g.find ≡ find
  pub gap : IsLeftOut is g.find g.write g.stop g.class
  pub least_write : (write stop : ℕ) (c : Class) → IsLeftOut is g.find write stop c → g.write ≤ write
  pub least_stop : (stop : ℕ) (c : Class) → IsLeftOut is g.find g.write stop c → g.stop ≤ stop

-- The first conflict of a capsule, and of a code.
use Rattle.std.specs.Prelude.{◌≡◌, ◌<◌, ◌≤◌, ℕ, List}
use Rattle.ppm_code.specs.declared.class.Class.{Class}
use Rattle.ppm_code.specs.declared.code.CodeParts.{CodeParts}
use Rattle.ppm_code.specs.declared.instr.Instr.{Instr}
pub use Rattle.ppm_code.specs.Free.{IsFree}
use Rattle.ppm_code.specs.Paths.{IsConflict, HasNoConflict}
use Rattle.ppm_code.specs.Strands.{instrs_of}
use Rattle.ppm_war.specs.declared.conflict.Found.{Found}
use Rattle.ppm_war.specs.declared.checked.Conflict.{Conflict}

-- a conflict of a capsule: no other has a lesser read, and none with this read a lesser write
pub record IsFirstConflict (is : List Instr) (f : Found) : Type 0 where
  pub conflict : IsConflict is f.read_at f.write_at f.class
  pub least_read : (read write : ℕ) (c : Class) → IsConflict is read write c → f.read_at ≤ read
  pub least_write : (write : ℕ) (c : Class) → IsConflict is f.read_at write c → f.write_at ≤ write

-- the capsule with a number has no conflict
abbrev pub HasNoConflictIn : CodeParts → ℕ → Type 0
HasNoConflictIn code number = HasNoConflict (instrs_of code number)

-- or this is its first
pub record IsFirstConflictIn (code : CodeParts) (number : ℕ) (c : Conflict) : Type 0 where
  pub capsule : c.capsule ≡ number
  pub first : IsFirstConflict (instrs_of code number) (record { read_at = c.read_at; write_at = c.write_at; class = c.class })

-- a conflict of a code: no lesser capsule has one, and in its capsule it is the first
pub record IsFirstConflictOf (code : CodeParts) (c : Conflict) : Type 0 where
  pub earlier : (number : ℕ) → number < c.capsule → HasNoConflictIn code number
  pub first : IsFirstConflictIn code c.capsule c

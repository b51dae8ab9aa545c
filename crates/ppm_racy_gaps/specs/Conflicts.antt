-- Conflicts of capsules that may exchange: an exchange is a read and a write of array words at one place.
use Rattle.std.specs.Prelude.{◌≡◌, ◌<◌, ◌≤◌, ℕ, ◌+◌, Bool, true, false, List, map, Some, slice_get}
use Rattle.ppm_code.specs.declared.class.Class.{Class}
use Rattle.ppm_code.specs.declared.class.Class.TheVariants.{Array}
use Rattle.ppm_code.specs.declared.class.May.TheVariants.{Read, Write}
use Rattle.ppm_code.specs.Paths.{may, Any, Exposes, Path}
use Rattle.ppm_war.specs.declared.checked.Conflict.{Conflict}
use Rattle.ppm_racy.specs.declared.code.RacyParts.{RacyParts}
use Rattle.ppm_racy.specs.declared.instr.RacyInstr.{RacyInstr}
use Rattle.ppm_racy.specs.declared.instr.RacyInstr.TheVariants.{Plain, Cam}
use Rattle.ppm_racy.specs.Acts.{plain_of}
use Rattle.ppm_racy.specs.Code.{instrs_of}

-- an instruction reads a class, or writes it
abbrev pub Reads : RacyInstr → Class → Type 0
Reads (Plain i) c = may i ≡ Read c
Reads (Cam region index old new line) c = c ≡ Array

abbrev pub Writes : RacyInstr → Class → Type 0
Writes (Plain i) c = may i ≡ Write c
Writes (Cam region index old new line) c = c ≡ Array

abbrev pub is_exchange : RacyInstr → Bool
is_exchange (Plain i) = false
is_exchange (Cam region index old new line) = true

-- A conflict: on some path a read of a class that nothing before it has written, and later a write of it. Paths are those with a put in place of each
-- exchange; no place is later than itself.
pub record IsRacyConflict (is : List RacyInstr) (read write : ℕ) (c : Class) : Type 0 where
  pub reads : (i : RacyInstr) × (slice_get is read ≡ Some i) × Reads i c
  pub before : Path (map plain_of is) (Exposes c) 0 read
  pub between : Path (map plain_of is) Any (read + 1) write
  pub writes : (i : RacyInstr) × (slice_get is write ≡ Some i) × Writes i c

-- the capsule with a number has none
abbrev pub HasNoRacyConflictIn : RacyParts → ℕ → Type 0
HasNoRacyConflictIn code number = (read write : ℕ) (c : Class) → IsRacyConflict (instrs_of code number) read write c → ⊥

-- the first conflict of a code: of the least capsule that has one, of the least read there, and after it of the least write
pub record IsFirstRacyConflictOf (code : RacyParts) (f : Conflict) : Type 0 where
  pub conflict : IsRacyConflict (instrs_of code f.capsule) f.read_at f.write_at f.class
  pub earlier : (number : ℕ) → number < f.capsule → HasNoRacyConflictIn code number
  pub least_read : (read write : ℕ) (c : Class) → IsRacyConflict (instrs_of code f.capsule) read write c → f.read_at ≤ read
  pub least_write : (write : ℕ) (c : Class) → IsRacyConflict (instrs_of code f.capsule) f.read_at write c → f.write_at ≤ write

-- What the search for a capsule's first conflict has found so far.
use Rattle.std.specs.Prelude.{◌≡◌, ◌<◌, ◌≤◌, ◌+◌, ℕ, nat_lt, max, List, get_or, Option, Some, None, if◌then◌else◌}
use Rattle.ppm_code.specs.declared.class.Class.{Class}
use Rattle.ppm_code.specs.declared.class.May.{May}
use Rattle.ppm_code.specs.declared.class.May.TheVariants.{Read, Write, Branch, Stop}
use Rattle.ppm_code.specs.declared.instr.Instr.{Instr}
use Rattle.ppm_code.specs.Paths.{Any, Does, IsConflict, Path}
use Rattle.ppm_war.specs.declared.conflict.Found.{Found}

-- the least number of which it holds, if there is one
pub record IsFirst (P : ℕ → Type 0) (found : Option ℕ) : Type 0 where
  pub none : found ≡ None → (n : ℕ) → P n → ⊥
  pub some : (n : ℕ) → found ≡ Some n → P n
  pub least : (n k : ℕ) → found ≡ Some n → P k → n ≤ k

-- the lesser of two numbers, where they are there
abbrev pub lesser : Option ℕ → Option ℕ → Option ℕ
lesser None b = b
lesser (Some a) None = Some a
lesser (Some a) (Some b) = if nat_lt b a then Some b else Some a

-- a path from a place comes to a write of the class
abbrev pub LeadsToWrite : List Instr → Class → (from write : ℕ) → Type 0
LeadsToWrite is c from write = Path is Any from write × Does is write (Write c)

-- the first write to which an instruction at a place leads that is none itself, where `firsts` has it for each later place
abbrev pub first_behind : List (Option ℕ) → May → (at : ℕ) → Option ℕ
first_behind firsts (Branch t) at = lesser (get_or firsts (at + 1) None) (get_or firsts (max t (at + 1)) None)
first_behind firsts Stop at = None
first_behind firsts _ at = get_or firsts (at + 1) None

-- no read of one of these classes is in conflict
abbrev pub HasNoneAmong : (Class → Type 0) → List Instr → Type 0
HasNoneAmong P is = (read write : ℕ) (c : Class) → P c → IsConflict is read write c → ⊥

-- a conflict: none of these classes has a lesser read, and none with this read a lesser write
pub record IsFirstAmong (P : Class → Type 0) (is : List Instr) (f : Found) : Type 0 where
  pub conflict : IsConflict is f.read_at f.write_at f.class
  pub least_read : (read write : ℕ) (c : Class) → P c → IsConflict is read write c → f.read_at ≤ read
  pub least_write : (write : ℕ) (c : Class) → IsConflict is f.read_at write c → f.write_at ≤ write

-- the first conflict of these classes, if there is one
abbrev pub IsAnswer : (Class → Type 0) → List Instr → Option Found → Type 0
IsAnswer P is None = HasNoneAmong P is
IsAnswer P is (Some f) = IsFirstAmong P is f

-- the class alone, and the classes that are read below a place
abbrev pub Is : Class → Class → Type 0
Is c d = d ≡ c

abbrev pub IsReadBelow : List Instr → ℕ → Class → Type 0
IsReadBelow is n c = (read : ℕ) × (read < n) × Does is read (Read c)

-- that of two conflicts with the lesser read
abbrev pub earlier : Option Found → Option Found → Option Found
earlier None b = b
earlier (Some a) None = Some a
earlier (Some a) (Some b) = if nat_lt b.read_at a.read_at then Some b else Some a

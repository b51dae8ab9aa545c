-- A whole input and a whole output.
use Rattle.std.specs.Prelude.{◌≡◌, ℕ, ◌+◌, ◌≤◌, List, Option, Result, Ok, Err, length, take}
use Rattle.std.specs.Io.KnownBytes.{Appends, Consumes, IsAtEnd}
use Rattle.ppm_ports.specs.declared.read_error.ReadError.{ReadError}
use Rattle.ppm_ports.specs.declared.read_error.ReadError.TheVariants as errors
use Rattle.ppm_ports.specs.Causes.{Rose}

-- the bytes were read from the front of what was left: to its end, or one more than the limit
pub record ReadsTo (limit : ℕ) (before now : Option (List ℕ)) (bytes : List ℕ) : Type 0 where
  pub front : Consumes before now bytes
  pub most : length bytes ≤ limit + 1
  pub end : length bytes ≤ limit → IsAtEnd now

-- some bytes were read from the front of what was left, one more than the limit at most
abbrev pub ReadsFront : ℕ → Option (List ℕ) → Option (List ℕ) → Type 0
ReadsFront limit before now = (bytes : List ℕ) × (length bytes ≤ limit + 1) × Consumes before now bytes

-- a front of the bytes was written
abbrev pub WritesFront : Option (List ℕ) → Option (List ℕ) → List ℕ → Type 0
WritesFront before now bytes = (n : ℕ) × (n ≤ length bytes) × Appends before now (take n bytes)

-- the count of faults rose where reading failed, and else it stays: also where memory was refused for what was read
abbrev pub CountsFaults : {T : Type 0} → ℕ → ℕ → Result T ReadError → Type 0
CountsFaults before now (Ok x) = now ≡ before
CountsFaults before now (Err errors.NoMemory) = now ≡ before
CountsFaults before now (Err errors.Failed) = Rose before now

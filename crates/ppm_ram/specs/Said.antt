-- What the functions find out on their way.
use Rattle.std.specs.Prelude.{◌≡◌, ℕ, suc, ℤ, Bool, if◌then◌else◌, List, [], ◌∷◌, ◌++◌, length, Option, Some, None, Result, Ok, Err}
use Rattle.ppm_pieces.specs.Pieces.{split}
use Rattle.ppm_ram.specs.declared.instruction.Instruction.{Instruction}
use Rattle.ppm_ram.specs.declared.ram.RamParts.{RamParts}
use Rattle.ppm_ram.specs.declared.ram_error.RamFault.{RamFault}
use Rattle.ppm_ram.specs.declared.ram_error.RamError.{RamError}
use Rattle.ppm_ram.specs.declared.ram_error.RamError.TheVariants as error
use Rattle.ppm_ram.specs.Lines.{Fault, line_then, with_size, size_in, with_head}

-- a rule that a line breaks, with the line
abbrev pub at_line : {A : Type 0} → (line : ℕ) → Result A RamFault → Result A Fault
at_line line (Ok a) = Ok a
at_line line (Err rule) = Err (rule, line)

-- a refusal is what was found wrong; that memory was refused is nothing wrong
abbrev pub IsFaultOf : {A : Type 0} → Result A Fault → RamError → Type 0
IsFaultOf v (error.Refused rule line) = v ≡ Err (rule, line)
IsFaultOf v error.NoMemory = Unit {0}

-- instructions that were read, and what the lines after them say
abbrev pub behind : List Instruction → Result (List Instruction) Fault → Result (List Instruction) Fault
behind is (Err f) = Err f
behind is (Ok js) = Ok (is ++ js)

-- the words after a first one, if there are more
abbrev pub words_left : (more : Bool) → List ℕ → List (List ℕ)
words_left more ws = if more then split 32 ws else []

-- how many bytes these have, and one for the space before them
abbrev pub bytes_left : (more : Bool) → List ℕ → ℕ
bytes_left more ws = if more then suc (length ws) else 0

-- the numbers so far, if all of them are in range
abbrev pub numbers_if : Bool → List ℤ → Option (List ℤ)
numbers_if fit zs = if fit then Some zs else None

-- these, and those that the words that are left say
abbrev pub joined_with : Option (List ℤ) → Option (List ℤ) → Option (List ℤ)
joined_with None more = None
joined_with (Some zs) None = None
joined_with (Some zs) (Some more) = Some (zs ++ more)

abbrev pub followed_by : Option (List ℤ) → Option (Option (List ℤ)) → Option (Option (List ℤ))
followed_by zs None = None
followed_by zs (Some more) = Some (joined_with zs more)

-- what the lines after the first say, and what all lines say
abbrev pub sized : List (List ℕ) → Result RamParts Fault
sized ls = line_then 2 (λ l ms. with_size (size_in l) ms) ls

abbrev pub headed : List (List ℕ) → Result RamParts Fault
headed ls = line_then 1 with_head ls

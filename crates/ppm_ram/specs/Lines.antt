-- What the lines of a text say, one after another: a RAM, or the first line that breaks a rule, with the rule of the least number that it breaks.
use Rattle.std.specs.Prelude.{◌≡◌, ℕ, ◌+◌, ◌==◌, Bool, true, false, not, ◌&&◌, nat_lt, nat_le, if◌then◌else◌, ℤ, List, [], ◌∷◌, length, codes}
use Rattle.std.specs.Prelude.{Option, Some, None, Result, Ok, Err}
use Rattle.std.specs.Str.{bytes_eq}
use Rattle.ppm_words.specs.Limits.{word_limit}
use Rattle.ppm_pieces.specs.Numbers.{is_empty, is_numeral, value}
use Rattle.ppm_pieces.specs.Pieces.{split, halves_of}
use Rattle.ppm_ram.specs.declared.register.Register.{Register}
use Rattle.ppm_ram.specs.declared.instruction.Operation.{Operation}
use Rattle.ppm_ram.specs.declared.instruction.Operation.TheVariants as operation
use Rattle.ppm_ram.specs.declared.instruction.Instruction.{Instruction}
use Rattle.ppm_ram.specs.declared.instruction.Instruction.TheVariants.{Set, Compute, Load, Store, JumpIfZero, Jump, Halt}
use Rattle.ppm_ram.specs.declared.keyword.Keyword.{Keyword}
use Rattle.ppm_ram.specs.declared.keyword.Keyword.TheVariants as keyword
use Rattle.ppm_ram.specs.declared.ram.RamParts.{RamParts}
use Rattle.ppm_ram.specs.declared.ram_error.RamFault.{RamFault}
use Rattle.ppm_ram.specs.declared.ram_error.RamFault.TheVariants as fault
use Rattle.ppm_ram.specs.declared.ram_error.RamError.{RamError}
use Rattle.ppm_ram.specs.declared.ram_error.RamError.TheVariants as error
use Rattle.ppm_ram.specs.Limits.{instruction_limit, text_limit, line_of}
use Rattle.ppm_ram.specs.Program.{has_target, is_final}
use Rattle.ppm_ram.specs.Numbers.{pair_of, made_of, register_in, target_in, value_in, values_in}

-- the number of each rule: at one line the least decides
abbrev pub fault_number : RamFault → ℕ
fault_number fault.NoSuchForm = 1
fault_number fault.OutOfRange = 2
fault_number fault.TooManyValues = 3
fault_number fault.NoSuchTarget = 4
fault_number fault.NoEnd = 5
fault_number fault.TooMany = 6

-- the keyword of an instruction with operands, by its word
abbrev pub keyword_of : List ℕ → Option Keyword
keyword_of word =
    if bytes_eq word (codes "set") then Some keyword.Set
    else if bytes_eq word (codes "add") then Some (keyword.Computes operation.Add)
    else if bytes_eq word (codes "sub") then Some (keyword.Computes operation.Sub)
    else if bytes_eq word (codes "mul") then Some (keyword.Computes operation.Mul)
    else if bytes_eq word (codes "div") then Some (keyword.Computes operation.Div)
    else if bytes_eq word (codes "rem") then Some (keyword.Computes operation.Rem)
    else if bytes_eq word (codes "lt") then Some (keyword.Computes operation.Less)
    else if bytes_eq word (codes "load") then Some keyword.Load
    else if bytes_eq word (codes "store") then Some keyword.Store
    else if bytes_eq word (codes "jz") then Some keyword.JumpIfZero
    else if bytes_eq word (codes "jump") then Some keyword.Jump
    else None

-- two words with one space between them, each read in its own way
abbrev pub two_in : {A B : Type 0} → (List ℕ → Option (Option A)) → (List ℕ → Option (Option B)) → Option (List ℕ × List ℕ) → Option (Option (A × B))
two_in first second None = None
two_in first second (Some halves) = pair_of (first halves.0) (second halves.1)

-- three registers
abbrev pub third_in : Option (Option Register) → Option (List ℕ × List ℕ) → Option (Option ((Register × Register) × Register))
third_in first None = None
third_in first (Some halves) = pair_of (pair_of first (register_in halves.0)) (register_in halves.1)

abbrev pub three_in : Option (List ℕ × List ℕ) → Option (Option ((Register × Register) × Register))
three_in None = None
three_in (Some halves) = third_in (register_in halves.0) (halves_of 32 halves.1)

-- the instruction of a keyword and its operands
abbrev pub operands_in : Keyword → List ℕ → Option (Option Instruction)
operands_in keyword.Set rest = made_of (λ (p : Register × ℤ). Set p.0 p.1) (two_in register_in value_in (halves_of 32 rest))
operands_in (keyword.Computes o) rest =
    made_of (λ (p : (Register × Register) × Register). Compute o p.0.0 p.0.1 p.1) (three_in (halves_of 32 rest))
operands_in keyword.Load rest = made_of (λ (p : Register × Register). Load p.0 p.1) (two_in register_in register_in (halves_of 32 rest))
operands_in keyword.Store rest = made_of (λ (p : Register × Register). Store p.0 p.1) (two_in register_in register_in (halves_of 32 rest))
operands_in keyword.JumpIfZero rest = made_of (λ (p : Register × ℕ). JumpIfZero p.0 p.1) (two_in register_in target_in (halves_of 32 rest))
operands_in keyword.Jump rest = made_of Jump (target_in rest)

abbrev pub instruction_by : Option Keyword → List ℕ → Option (Option Instruction)
instruction_by None rest = None
instruction_by (Some k) rest = operands_in k rest

-- the instruction of a line: a keyword and its operands, or `halt` alone
abbrev pub instruction_of : (line : List ℕ) → Option (List ℕ × List ℕ) → Option (Option Instruction)
instruction_of line None = if bytes_eq line (codes "halt") then Some (Some Halt) else None
instruction_of line (Some halves) = instruction_by (keyword_of halves.0) halves.1

abbrev pub instruction_in : (line : List ℕ) → Option (Option Instruction)
instruction_in line = instruction_of line (halves_of 32 line)

-- whether an instruction, by its number, is the last of so many
abbrev pub is_last : (count number : ℕ) → Bool
is_last count number = number + 1 == count

-- an instruction by its number among so many, or the rule of the least number that it breaks there
abbrev pub standing : (count number : ℕ) → Instruction → Result Instruction RamFault
standing count number i =
    if not (has_target count i) then Err fault.NoSuchTarget
    else if is_last count number && not (is_final i) then Err fault.NoEnd
    else if nat_le instruction_limit number then Err fault.TooMany
    else Ok i

-- what a line says, by its number among so many, or the rule of the least number that it breaks there
abbrev pub judged : (count number : ℕ) → Option (Option Instruction) → Result Instruction RamFault
judged count number None = Err fault.NoSuchForm
judged count number (Some None) = Err fault.OutOfRange
judged count number (Some (Some i)) = standing count number i

-- a fault of a text: the rule and the line, counted from 1
abbrev pub Fault : Type 0
Fault = RamFault × ℕ

-- an instruction in front of those of the lines after it
abbrev pub in_front : Instruction → Result (List Instruction) Fault → Result (List Instruction) Fault
in_front i (Err f) = Err f
in_front i (Ok is) = Ok (i ∷ is)

abbrev pub with_line : (line : ℕ) → Result Instruction RamFault → Result (List Instruction) Fault → Result (List Instruction) Fault
with_line line (Err rule) rest = Err (rule, line)
with_line line (Ok i) rest = in_front i rest

-- what the pieces between line feeds say from an instruction on: the last piece is none, if the last line has its line feed
abbrev pub instructions_in : (count number : ℕ) → List (List ℕ) → Result (List Instruction) Fault
instructions_in count number [] = Ok []
instructions_in count number (l ∷ []) = if is_empty l && nat_lt 0 number then Ok [] else Err (fault.NoSuchForm, line_of number)
instructions_in count number (l ∷ m ∷ ls) =
    with_line (line_of number) (judged count number (instruction_in l)) (instructions_in count (number + 1) (m ∷ ls))

-- how many lines there are: one without its line feed is a line
abbrev pub count_of : List (List ℕ) → ℕ
count_of [] = 0
count_of (l ∷ []) = if is_empty l then 0 else 1
count_of (l ∷ m ∷ ls) = 1 + count_of (m ∷ ls)

-- the words of memory that a line asks for
abbrev pub size_by : List ℕ → Option (List ℕ × List ℕ) → Result ℕ RamFault
size_by line None = Err fault.NoSuchForm
size_by line (Some halves) =
    if bytes_eq halves.0 (codes "memory") && is_numeral halves.1
    then (if nat_le (value halves.1) word_limit then Ok (value halves.1) else Err fault.OutOfRange)
    else Err fault.NoSuchForm

abbrev pub size_in : (line : List ℕ) → Result ℕ RamFault
size_in line = size_by line (halves_of 32 line)

-- values for a memory of so many words
abbrev pub fitting : (memory : ℕ) → Option (Option (List ℤ)) → Result (List ℤ) RamFault
fitting memory None = Err fault.NoSuchForm
fitting memory (Some None) = Err fault.OutOfRange
fitting memory (Some (Some zs)) = if nat_lt memory (length zs) then Err fault.TooManyValues else Ok zs

-- the values of a line
abbrev pub values_by : (memory : ℕ) → (line : List ℕ) → Option (List ℕ × List ℕ) → Result (List ℤ) RamFault
values_by memory line None = if bytes_eq line (codes "values") then Ok [] else Err fault.NoSuchForm
values_by memory line (Some halves) =
    if bytes_eq halves.0 (codes "values") then fitting memory (values_in (split 32 halves.1)) else Err fault.NoSuchForm

abbrev pub values_of : (memory : ℕ) → (line : List ℕ) → Result (List ℤ) RamFault
values_of memory line = values_by memory line (halves_of 32 line)

-- one line, and what is said of it and of the pieces after it; a piece with none after it is no line
abbrev pub line_then : (number : ℕ) → (List ℕ → List (List ℕ) → Result RamParts Fault) → List (List ℕ) → Result RamParts Fault
line_then number f [] = Err (fault.NoSuchForm, number)
line_then number f (l ∷ []) = Err (fault.NoSuchForm, number)
line_then number f (l ∷ m ∷ ls) = f l (m ∷ ls)

-- a RAM of so much memory, with these values and instructions
abbrev pub with_instructions : (memory : ℕ) → List ℤ → Result (List Instruction) Fault → Result RamParts Fault
with_instructions memory zs (Err f) = Err f
with_instructions memory zs (Ok is) = Ok (record { memory = memory; values = zs; instructions = is })

abbrev pub with_values : (memory : ℕ) → Result (List ℤ) RamFault → List (List ℕ) → Result RamParts Fault
with_values memory (Err rule) ls = Err (rule, 3)
with_values memory (Ok zs) ls = with_instructions memory zs (instructions_in (count_of ls) 0 ls)

abbrev pub with_size : Result ℕ RamFault → List (List ℕ) → Result RamParts Fault
with_size (Err rule) ls = Err (rule, 2)
with_size (Ok memory) ls = line_then 3 (λ l ms. with_values memory (values_of memory l) ms) ls

-- the first line
abbrev pub with_head : (line : List ℕ) → List (List ℕ) → Result RamParts Fault
with_head line ls = if bytes_eq line (codes "ram 1") then line_then 2 (λ l ms. with_size (size_in l) ms) ls else Err (fault.NoSuchForm, 1)

-- what a text says: a RAM, or its first fault; that it is too long is a fault of its first line
abbrev pub ram_in : (text : List ℕ) → Result RamParts Fault
ram_in text = if nat_lt text_limit (length text) then Err (fault.NoSuchForm, 1) else line_then 1 with_head (split 10 text)

-- a refusal is the first fault of the text; that memory was refused is none
abbrev pub IsRefusal : List ℕ → RamError → Type 0
IsRefusal text (error.Refused rule line) = ram_in text ≡ Err (rule, line)
IsRefusal text error.NoMemory = Unit {0}

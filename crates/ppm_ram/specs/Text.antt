-- How a RAM is written: a line for its memory, one for its values, and one for each instruction.
use Rattle.std.specs.Prelude.{◌≡◌, ◌≤◌, ℕ, List, [], ◌∷◌, ◌++◌, length, map, codes, decimal}
use Rattle.std.specs.Fmt.{signed_decimal}
use Rattle.std.specs.List.{flat_map}
use Rattle.ppm_ram.specs.declared.register.Register.{Register}
use Rattle.ppm_ram.specs.declared.instruction.Operation.{Operation}
use Rattle.ppm_ram.specs.declared.instruction.Operation.TheVariants.{Add, Sub, Mul, Div, Rem, Less}
use Rattle.ppm_ram.specs.declared.instruction.Instruction.{Instruction}
use Rattle.ppm_ram.specs.declared.instruction.Instruction.TheVariants.{Set, Compute, Load, Store, JumpIfZero, Jump, Halt}
use Rattle.ppm_ram.specs.declared.ram.RamParts.{RamParts}
use Rattle.ppm_ram.specs.Limits.{text_limit}
use Rattle.ppm_ram.specs.Program.{IsRam}

-- pieces with a byte between two
abbrev pub between : (separator : ℕ) → List (List ℕ) → List ℕ
between separator [] = []
between separator (p ∷ []) = p
between separator (p ∷ q ∷ qs) = p ++ separator ∷ between separator (q ∷ qs)

-- words with one space between two
abbrev pub joined : List (List ℕ) → List ℕ
joined words = between 32 words

-- the line of some words
abbrev pub line : List (List ℕ) → List ℕ
line words = joined words ++ 10 ∷ []

-- the word of an operation
abbrev pub operation_word : Operation → List ℕ
operation_word Add = codes "add"
operation_word Sub = codes "sub"
operation_word Mul = codes "mul"
operation_word Div = codes "div"
operation_word Rem = codes "rem"
operation_word Less = codes "lt"

-- a register, by its number
abbrev pub register_word : Register → List ℕ
register_word r = decimal r.index

-- the words of an instruction
abbrev pub instruction_words : Instruction → List (List ℕ)
instruction_words (Set to value) = codes "set" ∷ register_word to ∷ signed_decimal value ∷ []
instruction_words (Compute o to left right) = operation_word o ∷ register_word to ∷ register_word left ∷ register_word right ∷ []
instruction_words (Load to at) = codes "load" ∷ register_word to ∷ register_word at ∷ []
instruction_words (Store at from) = codes "store" ∷ register_word at ∷ register_word from ∷ []
instruction_words (JumpIfZero tested target) = codes "jz" ∷ register_word tested ∷ decimal target ∷ []
instruction_words (Jump target) = codes "jump" ∷ decimal target ∷ []
instruction_words Halt = codes "halt" ∷ []

-- the words of each line of a RAM
abbrev pub ram_lines : RamParts → List (List (List ℕ))
ram_lines r =
    (codes "ram" ∷ codes "1" ∷ []) ∷ (codes "memory" ∷ decimal r.memory ∷ []) ∷ (codes "values" ∷ map signed_decimal r.values)
    ∷ map instruction_words r.instructions

-- the text of a RAM
abbrev pub ram_text : RamParts → List ℕ
ram_text r = flat_map line (ram_lines r)

-- a text is of a RAM: it is what is written of it, and not too long
pub record IsTextOf (text : List ℕ) (r : RamParts) : Type 0 where
  pub ram : IsRam r
  pub short : length text ≤ text_limit
  pub same : text ≡ ram_text r

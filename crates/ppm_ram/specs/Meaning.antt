-- What a RAM does: eight registers and a memory of signed numbers, one instruction a step.
use Rattle.std.specs.Prelude.{◌≡◌, ◌⊎◌, ◌<◌, ◌≤◌, ℕ, suc, ◌+◌, ℤ, pos, negsuc, nat_lt, if◌then◌else◌, List, [], ◌∷◌, length, get_or, set, replicate, codes}
use Rattle.std.specs.Prelude.{Option, Some, None, slice_get, Result, Ok, Err}
use Rattle.std.specs.Ordering.{int_eq}
use Rattle.ppm_words.specs.declared.outcome.Outcome.{Outcome}
use Rattle.ppm_words.specs.declared.outcome.Outcome.TheVariants as outcome
use Rattle.ppm_words.specs.declared.named_array.NamedArray.{NamedArray}
use Rattle.ppm_words.specs.declared.trap.Trap.{Trap}
use Rattle.ppm_words.specs.declared.trap.Trap.TheVariants.{Index}
use Rattle.ppm_tree.specs.declared.operator.Operator.{Operator}
use Rattle.ppm_tree.specs.declared.operator.Operator.TheVariants as operator
use Rattle.ppm_tree.specs.Values.{applied}
use Rattle.ppm_ram.specs.declared.register.Register.{Register}
use Rattle.ppm_ram.specs.declared.instruction.Operation.{Operation}
use Rattle.ppm_ram.specs.declared.instruction.Operation.TheVariants.{Add, Sub, Mul, Div, Rem, Less}
use Rattle.ppm_ram.specs.declared.instruction.Instruction.{Instruction}
use Rattle.ppm_ram.specs.declared.instruction.Instruction.TheVariants.{Set, Compute, Load, Store, JumpIfZero, Jump, Halt}
use Rattle.ppm_ram.specs.declared.ram.RamParts.{RamParts}
use Rattle.ppm_ram.specs.Limits.{register_limit, line_of}
use Rattle.ppm_ram.specs.Program.{memory_of}

-- between two steps: the instruction that comes next, the registers and the memory
pub record State : Type 0 where
  pub at : ℕ
  pub registers : List ℤ
  pub memory : List ℤ

-- the end of a RAM: with a memory, or by a trap in a line of its text
pub data End : Type 0 where
  Halted : (memory : List ℤ) → End
  Trapped : Trap → (line : ℕ) → End

-- what a step leads to
pub data Move : Type 0 where
  GoesOn : State → Move
  Stops : End → Move

-- the operator of the language that an operation is
abbrev pub operator_of : Operation → Operator
operator_of Add = operator.Add
operator_of Sub = operator.Sub
operator_of Mul = operator.Mul
operator_of Div = operator.Div
operator_of Rem = operator.Rem
operator_of Less = operator.Lt

-- what an operation gives
abbrev pub applied_by : Operation → ℤ → ℤ → Result ℤ Trap
applied_by o left right = applied (operator_of o) left right

-- the number in a register
abbrev pub held : State → Register → ℤ
held s r = get_or s.registers r.index (pos 0)

-- at another instruction, with the same registers and memory
abbrev pub gone_to : State → ℕ → State
gone_to s target = record { at = target; registers = s.registers; memory = s.memory }

-- at the next instruction, with a number in a register
abbrev pub with_register : State → Register → ℤ → State
with_register s to z = record { at = s.at + 1; registers = set s.registers to.index z; memory = s.memory }

-- at the next instruction, with a number in the memory
abbrev pub with_memory : State → (index : ℕ) → ℤ → State
with_memory s index z = record { at = s.at + 1; registers = s.registers; memory = set s.memory index z }

-- what an operation found goes into a register, or its trap ends the RAM
abbrev pub computed : State → Register → Result ℤ Trap → Move
computed s to (Ok z) = GoesOn (with_register s to z)
computed s to (Err trap) = Stops (Trapped trap (line_of s.at))

-- the word of the memory that a number names, if there is one
abbrev pub index_of : List ℤ → ℤ → Option ℕ
index_of memory (pos n) = if nat_lt n (length memory) then Some n else None
index_of memory (negsuc n) = None

-- a word of the memory goes into a register; where there is none, that is a trap
abbrev pub loaded : State → Register → Option ℕ → Move
loaded s to None = Stops (Trapped Index (line_of s.at))
loaded s to (Some n) = GoesOn (with_register s to (get_or s.memory n (pos 0)))

-- a number goes into a word of the memory; where there is none, that is a trap
abbrev pub stored : State → ℤ → Option ℕ → Move
stored s z None = Stops (Trapped Index (line_of s.at))
stored s z (Some n) = GoesOn (with_memory s n z)

-- what an instruction does
abbrev pub does : State → Instruction → Move
does s (Set to value) = GoesOn (with_register s to value)
does s (Compute o to left right) = computed s to (applied_by o (held s left) (held s right))
does s (Load to at) = loaded s to (index_of s.memory (held s at))
does s (Store at from) = stored s (held s from) (index_of s.memory (held s at))
does s (JumpIfZero tested target) = GoesOn (gone_to s (if int_eq (held s tested) (pos 0) then target else s.at + 1))
does s (Jump target) = GoesOn (gone_to s target)
does s Halt = Stops (Halted s.memory)

-- the step from a state; past the last instruction, where no RAM comes, it would halt
abbrev pub done : State → Option Instruction → Move
done s None = Stops (Halted s.memory)
done s (Some i) = does s i

abbrev pub step : RamParts → State → Move
step r s = done s (slice_get r.instructions s.at)

-- from a state the RAM comes to an end after so many steps, the last of which ends it
pub data EndsIn (r : RamParts) : State → (steps : ℕ) → End → Type 0 where
  Last : (s : State) (e : End) → step r s ≡ Stops e → EndsIn r s 1 e
  Further : (s t : State) (steps : ℕ) (e : End) → step r s ≡ GoesOn t → EndsIn r t steps e → EndsIn r s (suc steps) e

-- the state in which a RAM begins with a memory: at its first instruction, with 0 in all registers
abbrev pub begins : (memory : List ℤ) → State
begins memory = record { at = 0; registers = replicate register_limit (pos 0); memory = memory }

-- the name of the memory as an array
abbrev pub memory_name : List ℕ
memory_name = codes "m"

-- the memory as an array
abbrev pub as_array : List ℤ → NamedArray
as_array memory = record { name = memory_name; values = memory }

-- an end as it is told
abbrev pub said_of : End → Outcome
said_of (Halted memory) = outcome.Ended (as_array memory ∷ [])
said_of (Trapped trap line) = outcome.Trapped trap line

-- a RAM, run from its own memory, comes to an end within so many steps, and this tells it
pub record IsWithin (r : RamParts) (limit : ℕ) (o : Outcome) : Type 0 where
  pub end : End
  pub steps : ℕ
  pub ends : EndsIn r (begins (memory_of r)) steps end
  pub within : steps ≤ limit
  pub told : o ≡ said_of end

-- it takes more steps than that, or has no end
pub record IsNotWithin (r : RamParts) (limit : ℕ) (o : Outcome) : Type 0 where
  pub more : (steps : ℕ) (e : End) → EndsIn r (begins (memory_of r)) steps e → limit < steps
  pub told : o ≡ outcome.NotWithin

-- what is told of a run that may take so many steps
abbrev pub IsRunOf : RamParts → (limit : ℕ) → Outcome → Type 0
IsRunOf r limit o = IsWithin r limit o ⊎ IsNotWithin r limit o

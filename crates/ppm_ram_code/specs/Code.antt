-- The code of a RAM: two capsules for each instruction, each of which reads one copy of the registers and writes the other.
use Rattle.std.specs.Prelude.{◌≡◌, refl, ℕ, ◌+◌, ◌*◌, Bool, true, false, nat_lt, ℤ, List, [], ◌∷◌}
use Rattle.std.proofs.lemmas.Bool.{ltb-true}
use Rattle.ppm_code.specs.declared.register.Register.{Register}
use Rattle.ppm_code.specs.declared.act.End.TheVariants.{Next, Finish}
use Rattle.ppm_code.specs.declared.instr.Instr.{Instr}
use Rattle.ppm_code.specs.declared.instr.Instr.TheVariants as instr
use Rattle.ppm_code.specs.declared.instr.Instr.TheVariants.{Const, LoadSlot, StoreCur, Get, Put, BranchNonZero, Ends}
use Rattle.ppm_code.specs.declared.code.Capsule.{Capsule}
use Rattle.ppm_code.specs.declared.code.CodeParts.{CodeParts}
use Rattle.ppm_ram.specs.declared.register.Register.{Register as RamRegister}
use Rattle.ppm_ram.specs.declared.instruction.Operation.{Operation}
use Rattle.ppm_ram.specs.declared.instruction.Operation.TheVariants.{Add, Sub, Mul, Div, Rem, Less}
use Rattle.ppm_ram.specs.declared.instruction.Instruction.{Instruction}
use Rattle.ppm_ram.specs.declared.instruction.Instruction.TheVariants.{Set, Compute, Load, Store, JumpIfZero, Jump, Halt}
use Rattle.ppm_ram.specs.declared.ram.RamParts.{RamParts}
use Rattle.ppm_ram.specs.Limits.{line_of}
use Rattle.ppm_ram_code.specs.declared.bank.Bank.{Bank}
use Rattle.ppm_ram_code.specs.declared.bank.Bank.TheVariants.{First, Second}

-- the other copy
abbrev pub other : Bank → Bank
other First = Second
other Second = First

-- the slot of a register in a copy; slot 0 has the region of the memory
abbrev pub slot_of : Bank → (register : ℕ) → ℕ
slot_of First register = 1 + register
slot_of Second register = 9 + register

-- the slots of the frame
abbrev pub frame_slots : ℕ
frame_slots = 17

-- the capsule of an instruction that reads a copy
abbrev pub capsule_at : (number : ℕ) → Bank → ℕ
capsule_at number First = 2 * number
capsule_at number Second = 2 * number + 1

-- the register of capsules with a number, or the last one
abbrev pub register_with : (n : ℕ) → (small : Bool) → nat_lt n 64 ≡ small → Register
register_with n true h = record { index = n; in_range = ltb-true n 64 h }
register_with n false h = record { index = 63; in_range = ltb-true 63 64 refl }

abbrev pub register : ℕ → Register
register n = register_with n (nat_lt n 64) refl

-- that of a register of the RAM
abbrev pub own : RamRegister → Register
own r = register r.index

-- the one that takes the region
abbrev pub region : Register
region = register 8

-- all registers of a copy are read
abbrev pub loads : Bank → List Instr → List Instr
loads b rest =
    LoadSlot (register 0) (slot_of b 0) ∷ LoadSlot (register 1) (slot_of b 1) ∷ LoadSlot (register 2) (slot_of b 2)
    ∷ LoadSlot (register 3) (slot_of b 3) ∷ LoadSlot (register 4) (slot_of b 4) ∷ LoadSlot (register 5) (slot_of b 5)
    ∷ LoadSlot (register 6) (slot_of b 6) ∷ LoadSlot (register 7) (slot_of b 7) ∷ rest

-- the frame goes on with the capsule of an instruction that reads a copy
abbrev pub onward : (number : ℕ) → Bank → List Instr
onward number b = Ends (Next (capsule_at number b)) ∷ []

-- all registers are written into a copy
abbrev pub stored_in : Bank → List Instr → List Instr
stored_in b rest =
    StoreCur (slot_of b 0) (register 0) ∷ StoreCur (slot_of b 1) (register 1) ∷ StoreCur (slot_of b 2) (register 2)
    ∷ StoreCur (slot_of b 3) (register 3) ∷ StoreCur (slot_of b 4) (register 4) ∷ StoreCur (slot_of b 5) (register 5)
    ∷ StoreCur (slot_of b 6) (register 6) ∷ StoreCur (slot_of b 7) (register 7) ∷ rest

-- and the frame goes on with that copy
abbrev pub stores : (number : ℕ) → Bank → List Instr
stores number b = stored_in b (onward number b)

-- the instruction of capsules that is an operation
abbrev pub operation_instr : Operation → (to left right : Register) → (line : ℕ) → Instr
operation_instr Add to left right line = instr.Add to left right line
operation_instr Sub to left right line = instr.Sub to left right line
operation_instr Mul to left right line = instr.Mul to left right line
operation_instr Div to left right line = instr.Div to left right line
operation_instr Rem to left right line = instr.Rem to left right line
operation_instr Less to left right line = instr.Less to left right

-- the capsule of an instruction, by its number, that reads a copy
abbrev pub instrs_for : (number : ℕ) → Bank → Instruction → List Instr
instrs_for number b (Set to value) = loads b (Const (own to) value ∷ stores (number + 1) (other b))
instrs_for number b (Compute o to left right) =
    loads b (operation_instr o (own to) (own left) (own right) (line_of number) ∷ stores (number + 1) (other b))
instrs_for number b (Load to at) =
    loads b (LoadSlot region 0 ∷ Get (own to) region (own at) (line_of number) ∷ stores (number + 1) (other b))
instrs_for number b (Store at from) =
    LoadSlot region 0 ∷ LoadSlot (register 0) (slot_of b at.index) ∷ LoadSlot (register 1) (slot_of b from.index)
    ∷ Put region (register 0) (register 1) (line_of number) ∷ onward (number + 1) b
instrs_for number b (JumpIfZero tested target) =
    LoadSlot (register 0) (slot_of b tested.index) ∷ BranchNonZero (register 0) 3 ∷ Ends (Next (capsule_at target b)) ∷ onward (number + 1) b
instrs_for number b (Jump target) = onward target b
instrs_for number b Halt = Ends Finish ∷ []

abbrev pub capsule_for : (number : ℕ) → Bank → Instruction → Capsule
capsule_for number b i = record { procedure = 0; instrs = instrs_for number b i }

-- the capsules of instructions, the first of which has this number
abbrev pub capsules_from : (number : ℕ) → List Instruction → List Capsule
capsules_from number [] = []
capsules_from number (i ∷ is) = capsule_for number First i ∷ capsule_for number Second i ∷ capsules_from (number + 1) is

-- the code: one procedure, whose first slot has the region of the one array
abbrev pub code_of : RamParts → CodeParts
code_of r = record {
  root = 0;
  arrays = 0 ∷ [];
  procedures = record { slots = frame_slots; entry = 0 } ∷ [];
  capsules = capsules_from 0 r.instructions;
}

-- What always holds of a RAM's code and of the memory with which it begins.
use Rattle.std.proofs.Common.{◌≡◌, ◌<◌, ℕ, zero, suc, ◌+◌, true, ℤ, pos, List, [], ◌∷◌, ◌++◌, length, Some, None, refl, subst, arith}
use Rattle.std.specs.Prelude.{slice_get, replicate}
use Rattle.std.specs.List.{AllByRecursion}
use Rattle.std.proofs.lemmas.List.Elements.{All-from_recursion}
use Rattle.ppm_code.specs.declared.code.Capsule.{Capsule}
use Rattle.ppm_code.specs.Code.{room_of}
use Rattle.ppm_tree.specs.Values.{fits}
use Rattle.ppm_ram.specs.declared.instruction.Instruction.{Instruction}
use Rattle.ppm_ram.specs.declared.instruction.Instruction.TheVariants.{Set, Compute, Load, Store, JumpIfZero, Jump, Halt}
use Rattle.ppm_ram.specs.declared.ram.RamParts.{RamParts}
use Rattle.ppm_ram.specs.Program.{IsRam, memory_of}
use Rattle.ppm_ram_code.specs.declared.bank.Bank.{Bank}
use Rattle.ppm_ram_code.specs.Code.{instrs_for, capsule_for, capsules_from, code_of}
use Rattle.ppm_ram_code.specs.Correct.{IsMemoryOf, input_of, CodeKeepsRules}
use Rattle.ppm_ram_code.proofs.CodeLemmas.{code_is}
use Rattle.ppm_ram_code.proofs.InputLemmas.{memory_length, input_is}
use Rattle.ppm_ram_code.proofs.ListLemmas.{all_at, all_capsules}

-- no capsule of an instruction asks for room
asks_none : (n : ℕ) (b : Bank) (i : Instruction) → room_of (instrs_for n b i) ≡ None
asks_none n b (Set to value) = refl
asks_none n b (Compute o to left right) = refl
asks_none n b (Load to at) = refl
asks_none n b (Store at from) = refl
asks_none n b (JumpIfZero tested target) = refl
asks_none n b (Jump target) = refl
asks_none n b Halt = refl

roomless : (r : RamParts) (number : ℕ) (c : Capsule) → slice_get (capsules_from 0 r.instructions) number ≡ Some c → room_of c.instrs ≡ None
roomless r =
    all_at (λ (c : Capsule). room_of c.instrs ≡ None) (capsules_from 0 r.instructions)
    (all_capsules (λ (c : Capsule). room_of c.instrs ≡ None) (λ n i. Unit {0}) (λ n b i h. asks_none n b i) r.instructions 0 (λ k i e. tt))

-- the values of its memory
all_append : {X : Type 0} (P : X → Type 0) (xs ys : List X) → AllByRecursion P xs → AllByRecursion P ys → AllByRecursion P (xs ++ ys)
all_append P [] ys h k = k
all_append P (x ∷ xs) ys h k = (h.0, all_append P xs ys h.1 k)

zeros_fit : (n : ℕ) → AllByRecursion (λ (v : ℤ). fits v ≡ true) (replicate n (pos 0))
zeros_fit zero = tt
zeros_fit (suc n) = (refl, zeros_fit n)

memory_is : (r : RamParts) → IsRam r → IsMemoryOf r (memory_of r)
memory_is r is =
    record { size = memory_length r is; values = all_append (λ (v : ℤ). fits v ≡ true) r.values _ is.values (zeros_fit _) }

pub rules_kept : CodeKeepsRules
rules_kept r is = record {
  code = code_is r is;
  roomless = roomless r;
  memory = memory_is r is;
  input = input_is r is (input_of (memory_of r)) refl;
  names = All-from_recursion (λ (a : ℕ). a < length (input_of (memory_of r))) (0 ∷ []) (omega arith, tt);
}

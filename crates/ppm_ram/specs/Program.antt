-- What always holds of a RAM.
use Rattle.std.specs.Prelude.{◌≡◌, ◌≤◌, ℕ, Bool, true, false, nat_lt, List, [], ◌∷◌, ◌++◌, ◌-◌, length, replicate, ℤ, pos}
use Rattle.std.specs.List.{AllByRecursion}
use Rattle.ppm_words.specs.Limits.{word_limit}
use Rattle.ppm_tree.specs.Values.{fits}
use Rattle.ppm_ram.specs.declared.instruction.Instruction.{Instruction}
use Rattle.ppm_ram.specs.declared.instruction.Instruction.TheVariants.{Set, Compute, Load, Store, JumpIfZero, Jump, Halt}
use Rattle.ppm_ram.specs.declared.ram.RamParts.{RamParts}
use Rattle.ppm_ram.specs.Limits.{instruction_limit}

-- whether an instruction goes to one of so many, if it jumps at all
abbrev pub has_target : (count : ℕ) → Instruction → Bool
has_target count (JumpIfZero tested target) = nat_lt target count
has_target count (Jump target) = nat_lt target count
has_target count _ = true

-- whether the constant of an instruction is a value
abbrev pub has_value : Instruction → Bool
has_value (Set to value) = fits value
has_value _ = true

-- whether an instruction never goes on to the next
abbrev pub is_final : Instruction → Bool
is_final (Jump target) = true
is_final Halt = true
is_final _ = false

-- the last of some instructions, of which there is one at least, never goes on to the next
abbrev pub EndWell : List Instruction → Type 0
EndWell [] = ⊥
EndWell (i ∷ []) = is_final i ≡ true
EndWell (i ∷ j ∷ is) = EndWell (j ∷ is)

-- a RAM: its memory and its instructions are within their limits, and no jump and no last instruction leads out of them
pub record IsRam (r : RamParts) : Type 0 where
  pub memory : r.memory ≤ word_limit
  pub few_values : length r.values ≤ r.memory
  pub values : AllByRecursion (λ v. fits v ≡ true) r.values
  pub few : length r.instructions ≤ instruction_limit
  pub constants : AllByRecursion (λ i. has_value i ≡ true) r.instructions
  pub targets : AllByRecursion (λ i. has_target (length r.instructions) i ≡ true) r.instructions
  pub end : EndWell r.instructions

-- the memory with which it begins: its values, and 0 after them
abbrev pub memory_of : RamParts → List ℤ
memory_of r = r.values ++ replicate (r.memory - length r.values) (pos 0)

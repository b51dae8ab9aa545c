-- What holds of each instruction of a RAM.
use Rattle.std.proofs.Common.{◌≡◌, ◌<◌, ◌≤◌, ℕ, zero, suc, ◌+◌, true, nat_lt, List, [], ◌∷◌, length, Option, Some, None, IfSome, refl, sym, subst, arith}
use Rattle.std.specs.Prelude.{slice_get}
use Rattle.std.specs.List.{AllByRecursion}
use Rattle.std.proofs.lemmas.Bool.{lt-ltb, ltb-true}
use Rattle.ppm_ram.specs.declared.instruction.Instruction.{Instruction}
use Rattle.ppm_ram.specs.declared.instruction.Instruction.TheVariants.{Set, Compute, Load, Store, JumpIfZero, Jump, Halt}
use Rattle.ppm_ram.specs.declared.ram.RamParts.{RamParts}
use Rattle.ppm_ram.specs.Limits.{instruction_limit}
use Rattle.ppm_ram.specs.Program.{IsRam, has_target}

-- an instruction that is there has a number below their count
within : (is : List Instruction) (k : ℕ) (i : Instruction) → slice_get is k ≡ Some i → k < length is
within [] k i e = absurd (cc)
within (j ∷ is) zero i e = omega arith
within (j ∷ is) (suc k) i e = let rest = within is k i e in omega (arith, rest)

all_at : (P : Instruction → Type 0) (is : List Instruction) → AllByRecursion P is → (k : ℕ) (i : Instruction) → slice_get is k ≡ Some i → P i
all_at P [] all k i e = absurd (cc)
all_at P (j ∷ is) all zero i e = let same : j ≡ i = cc in subst P same all.0
all_at P (j ∷ is) all (suc k) i e = all_at P is all.1 k i e

wider : (count more : ℕ) (i : Instruction) → count ≤ more → has_target count i ≡ true → has_target more i ≡ true
wider count more (Set to z) low h = refl
wider count more (Compute o to x y) low h = refl
wider count more (Load to x) low h = refl
wider count more (Store x y) low h = refl
wider count more (JumpIfZero x t) low h = let k = ltb-true t count h in lt-ltb t more (omega (arith, low, k))
wider count more (Jump t) low h = let k = ltb-true t count h in lt-ltb t more (omega (arith, low, k))
wider count more Halt low h = refl

pub few_there : (r : RamParts) → IsRam r → (k : ℕ) (i : Instruction) → slice_get r.instructions k ≡ Some i → k < instruction_limit
few_there r is k i e = let low = within r.instructions k i e in let few = is.few in omega (arith, low, few)

pub target_there : (r : RamParts) → IsRam r → (k : ℕ) (i : Instruction) → slice_get r.instructions k ≡ Some i → has_target instruction_limit i ≡ true
target_there r is k i e =
    wider (length r.instructions) instruction_limit i is.few (all_at (λ i. has_target (length r.instructions) i ≡ true) r.instructions is.targets k i e)

pub few_if : (r : RamParts) → IsRam r → (k : ℕ) (o : Option Instruction) → o ≡ slice_get r.instructions k → IfSome o (λ i. k < instruction_limit)
few_if r is k None e = tt
few_if r is k (Some i) e = few_there r is k i (sym e)

pub target_if : (r : RamParts) → IsRam r → (k : ℕ) (o : Option Instruction) → o ≡ slice_get r.instructions k
    → IfSome o (λ i. has_target instruction_limit i ≡ true)
target_if r is k None e = tt
target_if r is k (Some i) e = target_there r is k i (sym e)

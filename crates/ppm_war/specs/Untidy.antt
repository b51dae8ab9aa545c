-- The first untidy store of a capsule, and of a code.
use Rattle.std.specs.Prelude.{◌≡◌, ◌<◌, ℕ, List, Some, slice_get}
use Rattle.ppm_code.specs.declared.code.CodeParts.{CodeParts}
use Rattle.ppm_code.specs.declared.instr.Instr.{Instr}
use Rattle.ppm_code.specs.declared.instr.Instr.TheVariants.{StoreNew}
use Rattle.ppm_code.specs.declared.register.Register.{Register}
use Rattle.ppm_code.specs.Strands.{instrs_of}
use Rattle.ppm_code.specs.Tidy.{IsTidyStore}
use Rattle.ppm_war.specs.declared.untidy_store.UntidyStore.{UntidyStore}
use Rattle.ppm_war.specs.Stores.{IsTidyAt, IsTidyIn}

-- the instruction at a place stores a word into the new block, and the store is not tidy
pub record IsUntidyAt (code : CodeParts) (is : List Instr) (at : ℕ) : Type 0 where
  pub word : ℕ
  pub from : Register
  pub stores : slice_get is at ≡ Some (StoreNew word from)
  pub untidy : IsTidyStore code is at word → ⊥

-- an untidy store of a capsule: no lesser place has one
pub record IsFirstUntidy (code : CodeParts) (is : List Instr) (at : ℕ) : Type 0 where
  pub untidy : IsUntidyAt code is at
  pub earlier : (before : ℕ) → before < at → IsTidyAt code is before

-- the first one of the capsule with a number
pub record IsFirstUntidyIn (code : CodeParts) (number : ℕ) (s : UntidyStore) : Type 0 where
  pub capsule : s.capsule ≡ number
  pub first : IsFirstUntidy code (instrs_of code number) s.at

-- an untidy store of a code: no lesser capsule has one, and in its capsule it is the first
pub record IsFirstUntidyOf (code : CodeParts) (s : UntidyStore) : Type 0 where
  pub earlier : (number : ℕ) → number < s.capsule → IsTidyIn code number
  pub first : IsFirstUntidyIn code s.capsule s

-- With puts in place of its exchanges a code is the one that was read.
use Rattle.std.proofs.Common.{◌≡◌, ℕ, ◌+◌, List, [], ◌∷◌, refl, Option, Some, None, get_or, length}
use Rattle.std.specs.Prelude.{map}
use Rattle.ppm_code.specs.declared.code.Capsule.{Capsule}
use Rattle.ppm_code.specs.declared.code.CodeParts.{CodeParts}
use Rattle.ppm_code.specs.declared.instr.Instr.{Instr}
use Rattle.ppm_code.specs.declared.instr.Instr.TheVariants.{Const, Move, Add, Sub, Mul, Div, Rem, Equal, NotEqual, Less, AtMost, Len, CutLeft, CutRight}
use Rattle.ppm_code.specs.declared.instr.Instr.TheVariants.{LoadSlot, StoreCur, Give, Get, Put, BranchZero, BranchNonZero, Room, StoreNew, Ends}
use Rattle.ppm_racy.specs.Acts.{plain_of}
use Rattle.ppm_racy.specs.Code.{plain_capsule, plain_code}
use Rattle.ppm_racy_listing.specs.Exchanges.{exchanged, exchanged_instrs, exchanged_capsules, exchanged_code}

same_instr : (i : Instr) (old : Option ℕ) → plain_of (exchanged i old) ≡ i
same_instr (Const d v) old = refl
same_instr (Move d a) old = refl
same_instr (Add d a b line) old = refl
same_instr (Sub d a b line) old = refl
same_instr (Mul d a b line) old = refl
same_instr (Div d a b line) old = refl
same_instr (Rem d a b line) old = refl
same_instr (Equal d a b) old = refl
same_instr (NotEqual d a b) old = refl
same_instr (Less d a b) old = refl
same_instr (AtMost d a b) old = refl
same_instr (Len d a) old = refl
same_instr (CutLeft d a b line) old = refl
same_instr (CutRight d a b line) old = refl
same_instr (LoadSlot d i) old = refl
same_instr (StoreCur i a) old = refl
same_instr (Give a) old = refl
same_instr (Get d a b line) old = refl
same_instr (Put a b s line) None = refl
same_instr (Put a b s line) (Some old) = refl
same_instr (BranchZero a t) old = refl
same_instr (BranchNonZero a t) old = refl
same_instr (Room n) old = refl
same_instr (StoreNew o a) old = refl
same_instr (Ends e) old = refl

module _ (olds : List (Option ℕ)) where
  same_instrs : (line : ℕ) (is : List Instr) → map plain_of (exchanged_instrs olds line is) ≡ is
  same_instrs line [] = refl
  same_instrs line (i ∷ is) = λ j. same_instr i (get_or olds line None) j ∷ same_instrs (line + 1) is j

  same_capsules : (line : ℕ) (cs : List Capsule) → map plain_capsule (exchanged_capsules olds line cs) ≡ cs
  same_capsules line [] = refl
  same_capsules line (c ∷ cs) = λ j.
      record { procedure = c.procedure; instrs = same_instrs (line + 1) c.instrs j } ∷ same_capsules (line + 1 + length c.instrs) cs j

  pub same_code : (code : CodeParts) → plain_code (exchanged_code olds code) ≡ code
  same_code code = λ j. record {
    root = code.root;
    arrays = code.arrays;
    procedures = code.procedures;
    capsules = same_capsules (2 + length code.procedures) code.capsules j;
  }

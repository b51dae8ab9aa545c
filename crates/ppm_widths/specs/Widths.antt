-- One more than the highest register that a capsule reads, 0 where it reads none: its width.
use Rattle.std.specs.Prelude.{◌≡◌, ℕ, ◌+◌, max, List, [], ◌∷◌, map}
use Rattle.ppm_code.specs.declared.code.Capsule.{Capsule}
use Rattle.ppm_code.specs.declared.code.CodeParts.{CodeParts}
use Rattle.ppm_code.specs.declared.register.Register.{Register}
use Rattle.ppm_code.specs.declared.instr.Instr.{Instr}
use Rattle.ppm_code.specs.declared.instr.Instr.TheVariants.{Const, Move, Add, Sub, Mul, Div, Rem, Equal, NotEqual, Less, AtMost, Len, CutLeft, CutRight}
use Rattle.ppm_code.specs.declared.instr.Instr.TheVariants.{LoadSlot, StoreCur, Give, Get, Put, BranchZero, BranchNonZero, Room, StoreNew, Ends}

-- how many registers there are up to this one, itself counted; and up to the later of two
abbrev pub up_to : Register → ℕ
up_to r = r.index + 1

abbrev pub up_to_both : Register → Register → ℕ
up_to_both r q = max (up_to r) (up_to q)

-- and up to the last one that an instruction reads
abbrev pub instr_width : Instr → ℕ
instr_width (Const d n) = 0
instr_width (Move d a) = up_to a
instr_width (Add d a b line) = up_to_both a b
instr_width (Sub d a b line) = up_to_both a b
instr_width (Mul d a b line) = up_to_both a b
instr_width (Div d a b line) = up_to_both a b
instr_width (Rem d a b line) = up_to_both a b
instr_width (Equal d a b) = up_to_both a b
instr_width (NotEqual d a b) = up_to_both a b
instr_width (Less d a b) = up_to_both a b
instr_width (AtMost d a b) = up_to_both a b
instr_width (Len d a) = up_to a
instr_width (CutLeft d a b line) = up_to_both a b
instr_width (CutRight d a b line) = up_to_both a b
instr_width (LoadSlot d i) = 0
instr_width (StoreCur i a) = up_to a
instr_width (Give a) = up_to a
instr_width (Get d a b line) = up_to_both a b
instr_width (Put a b s line) = max (up_to_both a b) (up_to s)
instr_width (BranchZero a t) = up_to a
instr_width (BranchNonZero a t) = up_to a
instr_width (Room n) = 0
instr_width (StoreNew o a) = up_to a
instr_width (Ends e) = 0

-- the width of a capsule of these instructions
abbrev pub width_of : List Instr → ℕ
width_of [] = 0
width_of (i ∷ is) = max (instr_width i) (width_of is)

-- the widths of the capsules of a code, by their numbers
abbrev pub AreWidths : CodeParts → List ℕ → Type 0
AreWidths code widths = widths ≡ map (λ (capsule : Capsule). width_of capsule.instrs) code.capsules

-- How capsules grow by instructions, and codes by capsules.
use Rattle.std.specs.Prelude.{◌≡◌, ℕ, suc, pos, List, ◌∷◌, ◌++◌, map}
use Rattle.ppm_code.specs.declared.code.Capsule.{Capsule}
use Rattle.ppm_code.specs.declared.instr.Instr.TheVariants as instr
use Rattle.ppm_cut_code.specs.Layout.{register}
use Rattle.ppm_cut_code.specs.Statements.{Instrs, Last, OnTo, Gives, stores_code}
use Rattle.ppm_tree.specs.Tree.{give_of}
use Rattle.ppm_cut.specs.Counts.{IsShortGive}
use Rattle.ppm_cut.specs.declared.body.Last as declared_last
use Rattle.ppm_cut.specs.declared.body.Last.TheVariants as last

-- instructions are appended: those that are put in front of any others
pub record Grows (code : Instrs → Instrs) (old new : Instrs) : Type 0 where
  pub whole : (rest : Instrs) → old ++ code rest ≡ new ++ rest

-- a capsule of a procedure
abbrev pub capsule_of : ℕ → Instrs → Capsule
capsule_of q is = record { procedure = q; instrs = is }

-- capsules of a procedure are appended
pub record Adds (q : ℕ) (bodies : List Instrs) (old new : List Capsule) : Type 0 where
  pub whole : new ≡ old ++ map (capsule_of q) bodies

-- how a block goes on, from the declared type
abbrev pub last_of : declared_last.Last → Last
last_of (last.OnTo next) = OnTo next
last_of (last.Gives give) = Gives (give_of give.now)

-- of a hidden procedure that goes on by halves: both halves of its part, and its first index and that of the second half
abbrev pub halves_code : (line : ℕ) → Instrs → Instrs
halves_code line rest =
    instr.LoadSlot (register 0) 0 ∷ instr.Len (register 1) (register 0) ∷ instr.Const (register 2) (pos 2)
    ∷ instr.Div (register 1) (register 1) (register 2) line
    ∷ instr.CutLeft (register 2) (register 0) (register 1) line ∷ instr.CutRight (register 3) (register 0) (register 1) line
    ∷ instr.LoadSlot (register 4) 1 ∷ instr.Add (register 5) (register 4) (register 1) line ∷ rest

-- and the stores of a half into its frame, from a word of the new block on
abbrev pub half_code : (offset part index names : ℕ) → Instrs → Instrs
half_code offset part index names rest =
    instr.StoreNew offset (register part) ∷ instr.StoreNew (suc offset) (register index) ∷ stores_code (suc (suc offset)) 6 names rest

-- what a body gives is short
abbrev pub IsShortLast : Last → Type 0
IsShortLast (OnTo next) = Unit {0}
IsShortLast (Gives give) = IsShortGive give

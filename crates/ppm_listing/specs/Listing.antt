-- The listing of a code: the line of each of its parts, and of each instruction.
use Rattle.std.specs.Prelude.{ℕ, ◌+◌, pos, List, [], ◌∷◌, ◌++◌, map, Option, Some, None}
use Rattle.std.specs.List.{flat_map}
use Rattle.ppm_words.specs.declared.trap.Trap.{Trap}
use Rattle.ppm_words.specs.declared.trap.Trap.TheVariants.{Overflow, DivZero, Index, Split}
use Rattle.ppm_code.specs.declared.act.End.{End}
use Rattle.ppm_code.specs.declared.act.End.TheVariants.{Next, Finish, Trap as Trapping, Call, Fork}
use Rattle.ppm_code.specs.declared.code.Capsule.{Capsule}
use Rattle.ppm_code.specs.declared.code.Procedure.{Procedure}
use Rattle.ppm_code.specs.declared.code.CodeParts.{CodeParts}
use Rattle.ppm_code.specs.declared.instr.Instr.{Instr}
use Rattle.ppm_code.specs.declared.instr.Instr.TheVariants.{Const, Move, Add, Sub, Mul, Div, Rem, Equal, NotEqual, Less, AtMost, Len, CutLeft, CutRight}
use Rattle.ppm_code.specs.declared.instr.Instr.TheVariants.{LoadSlot, StoreCur, Give, Get, Put, BranchZero, BranchNonZero, Room, StoreNew, Ends}
use Rattle.ppm_listing.specs.declared.keyword.Keyword.TheVariants as keyword
use Rattle.ppm_listing.specs.declared.token.Token.{Token}
use Rattle.ppm_listing.specs.declared.token.Token.TheVariants.{Name, Register, Number, Absent}
use Rattle.ppm_listing.specs.Tokens.{Line, line, line_text}

-- the token of a number from 0 on
abbrev pub number : ℕ → Token
number n = Number (pos n)

-- the token of a slot, if one is named
abbrev pub slot_token : Option ℕ → Token
slot_token None = Absent
slot_token (Some slot) = number slot

-- the number of a trap
abbrev pub trap_number : Trap → ℕ
trap_number Overflow = 1
trap_number DivZero = 2
trap_number Index = 3
trap_number Split = 4

-- the line of an end
abbrev pub end_line : End → Line
end_line (Next capsule) = line keyword.Next (number capsule ∷ [])
end_line Finish = line keyword.End []
end_line (Trapping trap source_line) = line keyword.Trap (number (trap_number trap) ∷ number source_line ∷ [])
end_line (Call procedure capsule None) = line keyword.Call (number procedure ∷ number capsule ∷ [])
end_line (Call procedure capsule (Some slot)) = line keyword.CallTo (number procedure ∷ number capsule ∷ number slot ∷ [])
end_line (Fork left right capsule None None) = line keyword.Fork (number left ∷ number right ∷ number capsule ∷ [])
end_line (Fork left right capsule None (Some slot)) =
    line keyword.ForkTo (number left ∷ number right ∷ number capsule ∷ Absent ∷ number slot ∷ [])
end_line (Fork left right capsule (Some slot) right_to) =
    line keyword.ForkTo (number left ∷ number right ∷ number capsule ∷ number slot ∷ slot_token right_to ∷ [])

-- the line of an instruction
abbrev pub instr_line : Instr → Line
instr_line (Const d n) = line keyword.Const (Register d ∷ Number n ∷ [])
instr_line (Move d a) = line keyword.Move (Register d ∷ Register a ∷ [])
instr_line (Add d a b source_line) = line keyword.Add (Register d ∷ Register a ∷ Register b ∷ number source_line ∷ [])
instr_line (Sub d a b source_line) = line keyword.Sub (Register d ∷ Register a ∷ Register b ∷ number source_line ∷ [])
instr_line (Mul d a b source_line) = line keyword.Mul (Register d ∷ Register a ∷ Register b ∷ number source_line ∷ [])
instr_line (Div d a b source_line) = line keyword.Div (Register d ∷ Register a ∷ Register b ∷ number source_line ∷ [])
instr_line (Rem d a b source_line) = line keyword.Rem (Register d ∷ Register a ∷ Register b ∷ number source_line ∷ [])
instr_line (Equal d a b) = line keyword.Equal (Register d ∷ Register a ∷ Register b ∷ [])
instr_line (NotEqual d a b) = line keyword.NotEqual (Register d ∷ Register a ∷ Register b ∷ [])
instr_line (Less d a b) = line keyword.Less (Register d ∷ Register a ∷ Register b ∷ [])
instr_line (AtMost d a b) = line keyword.AtMost (Register d ∷ Register a ∷ Register b ∷ [])
instr_line (Len d a) = line keyword.Len (Register d ∷ Register a ∷ [])
instr_line (CutLeft d a b source_line) = line keyword.CutLeft (Register d ∷ Register a ∷ Register b ∷ number source_line ∷ [])
instr_line (CutRight d a b source_line) = line keyword.CutRight (Register d ∷ Register a ∷ Register b ∷ number source_line ∷ [])
instr_line (LoadSlot d i) = line keyword.LoadSlot (Register d ∷ number i ∷ [])
instr_line (StoreCur i a) = line keyword.StoreCur (number i ∷ Register a ∷ [])
instr_line (Give a) = line keyword.Give (Register a ∷ [])
instr_line (Get d a b source_line) = line keyword.Get (Register d ∷ Register a ∷ Register b ∷ number source_line ∷ [])
instr_line (Put a b s source_line) = line keyword.Put (Register a ∷ Register b ∷ Register s ∷ number source_line ∷ [])
instr_line (BranchZero a t) = line keyword.BranchZero (Register a ∷ number t ∷ [])
instr_line (BranchNonZero a t) = line keyword.BranchNonZero (Register a ∷ number t ∷ [])
instr_line (Room n) = line keyword.Room (number n ∷ [])
instr_line (StoreNew o a) = line keyword.StoreNew (number o ∷ Register a ∷ [])
instr_line (Ends e) = end_line e

-- the line of the root: its procedure, and the arrays of its first slots
abbrev pub root_line : (root : ℕ) (arrays : List ℕ) → Line
root_line root arrays = line keyword.Root (number root ∷ map number arrays)

-- the line of a procedure with its number
abbrev pub procedure_line : ℕ → Procedure → Line
procedure_line procedure p =
    line keyword.Proc (number procedure ∷ Name keyword.Slots ∷ number p.slots ∷ Name keyword.Entry ∷ number p.entry ∷ [])

-- the lines of procedures, numbered from one on
abbrev pub procedure_lines : ℕ → List Procedure → List Line
procedure_lines from [] = []
procedure_lines from (p ∷ ps) = procedure_line from p ∷ procedure_lines (from + 1) ps

-- the line of a capsule with its number
abbrev pub capsule_line : ℕ → Capsule → Line
capsule_line capsule c = line keyword.Capsule (number capsule ∷ Name keyword.Proc ∷ number c.procedure ∷ [])

-- the lines of a capsule with its number, and of its instructions
abbrev pub lines_of_capsule : ℕ → Capsule → List Line
lines_of_capsule capsule c = capsule_line capsule c ∷ map instr_line c.instrs

-- the lines of capsules, numbered from one on
abbrev pub capsule_lines : ℕ → List Capsule → List Line
capsule_lines from [] = []
capsule_lines from (c ∷ cs) = lines_of_capsule from c ++ capsule_lines (from + 1) cs

-- the lines of a code: the form's version, the root with its arrays, the procedures, the capsules
abbrev pub lines_of : CodeParts → List Line
lines_of code =
    line keyword.Ppm (number 1 ∷ []) ∷ root_line code.root code.arrays
    ∷ procedure_lines 0 code.procedures ++ capsule_lines 0 code.capsules

-- the text of lines
abbrev pub text_of : List Line → List ℕ
text_of lines = flat_map line_text lines

-- the listing of a code
abbrev pub listing_of : CodeParts → List ℕ
listing_of code = text_of (lines_of code)

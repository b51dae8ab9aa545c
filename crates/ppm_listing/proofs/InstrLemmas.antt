-- Instructions are told by their lines.
use Rattle.std.proofs.Common.{◌≡◌, ◌∙◌, ℕ, zero, suc, Bool, true, false, List, [], ◌∷◌, Option, Some, None, refl, sym, ap}
use Rattle.std.specs.Prelude.{pos}
use Rattle.ppm_words.specs.declared.trap.Trap.{Trap}
use Rattle.ppm_words.specs.declared.trap.Trap.TheVariants.{Overflow, DivZero, Index, Split}
use Rattle.ppm_code.specs.declared.act.End.TheVariants.{Next, Finish, Trap as Trapping, Call, Fork}
use Rattle.ppm_code.specs.declared.instr.Instr.{Instr}
use Rattle.ppm_code.specs.declared.instr.Instr.TheVariants.{Const, Move, Add, Sub, Mul, Div, Rem, Equal, NotEqual, Less, AtMost, Len, CutLeft, CutRight}
use Rattle.ppm_code.specs.declared.instr.Instr.TheVariants.{LoadSlot, StoreCur, Give, Get, Put, BranchZero, BranchNonZero, Room, StoreNew, Ends}
use Rattle.ppm_listing.specs.declared.keyword.Keyword.{Keyword}
use Rattle.ppm_listing.specs.declared.keyword.Keyword.TheVariants as keyword
use Rattle.ppm_listing.specs.declared.token.Token.{Token}
use Rattle.ppm_listing.specs.declared.token.Token.TheVariants.{Register, Number}
use Rattle.ppm_listing.specs.Tokens.{Line}
use Rattle.ppm_listing.specs.Listing.{trap_number, slot_token, instr_line}

-- the trap of a number, or any
abbrev trap_of : ℕ → Trap
trap_of (suc zero) = Overflow
trap_of (suc (suc zero)) = DivZero
trap_of (suc (suc (suc zero))) = Index
trap_of _ = Split

-- the slot that a token names
abbrev slot_of : Token → Option ℕ
slot_of (Number (pos slot)) = Some slot
slot_of _ = None

-- the instruction of a line, or any
abbrev instr_of : Keyword → List Token → Instr
instr_of keyword.Const (Register d ∷ Number n ∷ []) = Const d n
instr_of keyword.Move (Register d ∷ Register a ∷ []) = Move d a
instr_of keyword.Add (Register d ∷ Register a ∷ Register b ∷ Number (pos at) ∷ []) = Add d a b at
instr_of keyword.Sub (Register d ∷ Register a ∷ Register b ∷ Number (pos at) ∷ []) = Sub d a b at
instr_of keyword.Mul (Register d ∷ Register a ∷ Register b ∷ Number (pos at) ∷ []) = Mul d a b at
instr_of keyword.Div (Register d ∷ Register a ∷ Register b ∷ Number (pos at) ∷ []) = Div d a b at
instr_of keyword.Rem (Register d ∷ Register a ∷ Register b ∷ Number (pos at) ∷ []) = Rem d a b at
instr_of keyword.Equal (Register d ∷ Register a ∷ Register b ∷ []) = Equal d a b
instr_of keyword.NotEqual (Register d ∷ Register a ∷ Register b ∷ []) = NotEqual d a b
instr_of keyword.Less (Register d ∷ Register a ∷ Register b ∷ []) = Less d a b
instr_of keyword.AtMost (Register d ∷ Register a ∷ Register b ∷ []) = AtMost d a b
instr_of keyword.Len (Register d ∷ Register a ∷ []) = Len d a
instr_of keyword.CutLeft (Register d ∷ Register a ∷ Register b ∷ Number (pos at) ∷ []) = CutLeft d a b at
instr_of keyword.CutRight (Register d ∷ Register a ∷ Register b ∷ Number (pos at) ∷ []) = CutRight d a b at
instr_of keyword.LoadSlot (Register d ∷ Number (pos i) ∷ []) = LoadSlot d i
instr_of keyword.StoreCur (Number (pos i) ∷ Register a ∷ []) = StoreCur i a
instr_of keyword.Give (Register a ∷ []) = Give a
instr_of keyword.Get (Register d ∷ Register a ∷ Register b ∷ Number (pos at) ∷ []) = Get d a b at
instr_of keyword.Put (Register a ∷ Register b ∷ Register s ∷ Number (pos at) ∷ []) = Put a b s at
instr_of keyword.BranchZero (Register a ∷ Number (pos t) ∷ []) = BranchZero a t
instr_of keyword.BranchNonZero (Register a ∷ Number (pos t) ∷ []) = BranchNonZero a t
instr_of keyword.Room (Number (pos n) ∷ []) = Room n
instr_of keyword.StoreNew (Number (pos o) ∷ Register a ∷ []) = StoreNew o a
instr_of keyword.Next (Number (pos k) ∷ []) = Ends (Next k)
instr_of keyword.End ([]) = Ends Finish
instr_of keyword.Trap (Number (pos x) ∷ Number (pos at) ∷ []) = Ends (Trapping (trap_of x) at)
instr_of keyword.Call (Number (pos q) ∷ Number (pos k) ∷ []) = Ends (Call q k None)
instr_of keyword.CallTo (Number (pos q) ∷ Number (pos k) ∷ Number (pos t) ∷ []) = Ends (Call q k (Some t))
instr_of keyword.Fork (Number (pos q) ∷ Number (pos p) ∷ Number (pos k) ∷ []) = Ends (Fork q p k None None)
instr_of keyword.ForkTo (Number (pos q) ∷ Number (pos p) ∷ Number (pos k) ∷ t ∷ u ∷ []) = Ends (Fork q p k (slot_of t) (slot_of u))
instr_of _ _ = Ends Finish

trap_of-trap_number : (x : Trap) → trap_of (trap_number x) ≡ x
trap_of-trap_number Overflow = refl
trap_of-trap_number DivZero = refl
trap_of-trap_number Index = refl
trap_of-trap_number Split = refl

slot_of-slot_token : (slot : Option ℕ) → slot_of (slot_token slot) ≡ slot
slot_of-slot_token None = refl
slot_of-slot_token (Some slot) = refl

-- the instruction of a line of an instruction is this one
abbrev back : Line → Instr
back l = instr_of l.keyword l.operands

instr_of-instr_line : (i : Instr) → back (instr_line i) ≡ i
instr_of-instr_line (Const d n) = refl
instr_of-instr_line (Move d a) = refl
instr_of-instr_line (Add d a b at) = refl
instr_of-instr_line (Sub d a b at) = refl
instr_of-instr_line (Mul d a b at) = refl
instr_of-instr_line (Div d a b at) = refl
instr_of-instr_line (Rem d a b at) = refl
instr_of-instr_line (Equal d a b) = refl
instr_of-instr_line (NotEqual d a b) = refl
instr_of-instr_line (Less d a b) = refl
instr_of-instr_line (AtMost d a b) = refl
instr_of-instr_line (Len d a) = refl
instr_of-instr_line (CutLeft d a b at) = refl
instr_of-instr_line (CutRight d a b at) = refl
instr_of-instr_line (LoadSlot d i) = refl
instr_of-instr_line (StoreCur i a) = refl
instr_of-instr_line (Give a) = refl
instr_of-instr_line (Get d a b at) = refl
instr_of-instr_line (Put a b s at) = refl
instr_of-instr_line (BranchZero a t) = refl
instr_of-instr_line (BranchNonZero a t) = refl
instr_of-instr_line (Room n) = refl
instr_of-instr_line (StoreNew o a) = refl
instr_of-instr_line (Ends (Next k)) = refl
instr_of-instr_line (Ends Finish) = refl
instr_of-instr_line (Ends (Trapping x at)) = ap (λ (y : Trap). Ends (Trapping y at)) (trap_of-trap_number x)
instr_of-instr_line (Ends (Call q k None)) = refl
instr_of-instr_line (Ends (Call q k (Some t))) = refl
instr_of-instr_line (Ends (Fork q p k None None)) = refl
instr_of-instr_line (Ends (Fork q p k None (Some u))) = refl
instr_of-instr_line (Ends (Fork q p k (Some t) u)) = ap (λ (v : Option ℕ). Ends (Fork q p k (Some t) v)) (slot_of-slot_token u)

pub instr_line_injective : (i j : Instr) → instr_line i ≡ instr_line j → i ≡ j
instr_line_injective i j e = sym (instr_of-instr_line i) ∙ ap back e ∙ instr_of-instr_line j

-- whether the first line is there and is not that of a capsule
abbrev pub begins_instr : List Line → Bool
begins_instr [] = false
begins_instr (l ∷ ls) = is_other l.keyword
  where
    is_other : Keyword → Bool
    is_other keyword.Capsule = false
    is_other _ = true

-- the line of an instruction is one, whichever lines follow
pub begins_instr-instr_line : (i : Instr) (ls : List Line) → begins_instr (instr_line i ∷ ls) ≡ true
begins_instr-instr_line (Const d n) ls = refl
begins_instr-instr_line (Move d a) ls = refl
begins_instr-instr_line (Add d a b at) ls = refl
begins_instr-instr_line (Sub d a b at) ls = refl
begins_instr-instr_line (Mul d a b at) ls = refl
begins_instr-instr_line (Div d a b at) ls = refl
begins_instr-instr_line (Rem d a b at) ls = refl
begins_instr-instr_line (Equal d a b) ls = refl
begins_instr-instr_line (NotEqual d a b) ls = refl
begins_instr-instr_line (Less d a b) ls = refl
begins_instr-instr_line (AtMost d a b) ls = refl
begins_instr-instr_line (Len d a) ls = refl
begins_instr-instr_line (CutLeft d a b at) ls = refl
begins_instr-instr_line (CutRight d a b at) ls = refl
begins_instr-instr_line (LoadSlot d i) ls = refl
begins_instr-instr_line (StoreCur i a) ls = refl
begins_instr-instr_line (Give a) ls = refl
begins_instr-instr_line (Get d a b at) ls = refl
begins_instr-instr_line (Put a b s at) ls = refl
begins_instr-instr_line (BranchZero a t) ls = refl
begins_instr-instr_line (BranchNonZero a t) ls = refl
begins_instr-instr_line (Room n) ls = refl
begins_instr-instr_line (StoreNew o a) ls = refl
begins_instr-instr_line (Ends (Next k)) ls = refl
begins_instr-instr_line (Ends Finish) ls = refl
begins_instr-instr_line (Ends (Trapping x at)) ls = refl
begins_instr-instr_line (Ends (Call q k None)) ls = refl
begins_instr-instr_line (Ends (Call q k (Some t))) ls = refl
begins_instr-instr_line (Ends (Fork q p k None None)) ls = refl
begins_instr-instr_line (Ends (Fork q p k None (Some u))) ls = refl
begins_instr-instr_line (Ends (Fork q p k (Some t) u)) ls = refl

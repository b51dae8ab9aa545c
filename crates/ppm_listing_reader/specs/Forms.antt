-- The forms of lines: what stands after each keyword, and what it says.
use Rattle.std.specs.Prelude.{ℕ, ◌-◌, ◌^◌, ◌==◌, min, ℤ, pos, negsuc, Bool, true, false, not, ◌&&◌, nat_lt, nat_le, if◌then◌else◌, List, [], ◌∷◌}
use Rattle.std.specs.Prelude.{map, get_or, drop, Option, Some, None}
use Rattle.std.specs.List.{list_all}
use Rattle.std.proofs.Common.{◌≡◌, refl}
use Rattle.std.proofs.lemmas.Bool.{ltb-true}
use Rattle.ppm_words.specs.declared.trap.Trap.{Trap}
use Rattle.ppm_words.specs.declared.trap.Trap.TheVariants.{Overflow, DivZero, Index, Split}
use Rattle.ppm_code.specs.declared.register.Register.{Register}
use Rattle.ppm_code.specs.declared.act.End.TheVariants.{Next, Finish, Trap as Trapping, Call, Fork}
use Rattle.ppm_code.specs.declared.instr.Instr.{Instr}
use Rattle.ppm_code.specs.declared.instr.Instr.TheVariants.{Const, Move, Add, Sub, Mul, Div, Rem, Equal, NotEqual, Less, AtMost, Len, CutLeft, CutRight}
use Rattle.ppm_code.specs.declared.instr.Instr.TheVariants.{LoadSlot, StoreCur, Give, Get, Put, BranchZero, BranchNonZero, Room, StoreNew, Ends}
use Rattle.ppm_listing.specs.declared.keyword.Keyword.{Keyword}
use Rattle.ppm_listing.specs.declared.keyword.Keyword.TheVariants as keyword
use Rattle.ppm_listing_reader.specs.declared.token.Token.{Token}
use Rattle.ppm_listing_reader.specs.declared.token.Token.TheVariants.{Name, Register as RegisterToken, Number, Negative, Absent, Other}
use Rattle.ppm_listing_reader.specs.declared.form.Sort.{Sort}
use Rattle.ppm_listing_reader.specs.declared.form.Sort.TheVariants as sort
use Rattle.ppm_listing_reader.specs.declared.part.Part.{Part}
use Rattle.ppm_listing_reader.specs.declared.part.Part.TheVariants as part
use Rattle.ppm_listing_reader.specs.Tokens.{is_empty, split, tokens_of}

-- whether a token is of a sort
abbrev pub is_of : Sort → Token → Bool
is_of sort.Register (RegisterToken n) = true
is_of sort.Number (Number n) = true
is_of sort.Constant (Number n) = true
is_of sort.Constant (Negative n) = true
is_of sort.Slot (Number n) = true
is_of sort.Slot Absent = true
is_of sort.Version (Number n) = n == 1
is_of sort.Slots (Name keyword.Slots) = true
is_of sort.Entry (Name keyword.Entry) = true
is_of sort.Proc (Name keyword.Proc) = true
is_of _ _ = false

-- whether tokens are of sorts, one of each
abbrev pub are_of : List Sort → List Token → Bool
are_of [] [] = true
are_of (s ∷ ss) (t ∷ ts) = is_of s t && are_of ss ts
are_of _ _ = false

-- what stands after a keyword: three registers and a line of the source, three registers, two, and so on
abbrev pub three_at : List Sort
three_at = sort.Register ∷ sort.Register ∷ sort.Register ∷ sort.Number ∷ []

abbrev pub three : List Sort
three = sort.Register ∷ sort.Register ∷ sort.Register ∷ []

abbrev pub sorts : Keyword → List Sort
sorts keyword.Ppm = sort.Version ∷ []
sorts keyword.Root = sort.Number ∷ []
sorts keyword.Proc = sort.Number ∷ sort.Slots ∷ sort.Number ∷ sort.Entry ∷ sort.Number ∷ []
sorts keyword.Slots = []
sorts keyword.Entry = []
sorts keyword.Capsule = sort.Number ∷ sort.Proc ∷ sort.Number ∷ []
sorts keyword.Const = sort.Register ∷ sort.Constant ∷ []
sorts keyword.Move = sort.Register ∷ sort.Register ∷ []
sorts keyword.Add = three_at
sorts keyword.Sub = three_at
sorts keyword.Mul = three_at
sorts keyword.Div = three_at
sorts keyword.Rem = three_at
sorts keyword.Equal = three
sorts keyword.NotEqual = three
sorts keyword.Less = three
sorts keyword.AtMost = three
sorts keyword.Len = sort.Register ∷ sort.Register ∷ []
sorts keyword.CutLeft = three_at
sorts keyword.CutRight = three_at
sorts keyword.LoadSlot = sort.Register ∷ sort.Number ∷ []
sorts keyword.StoreCur = sort.Number ∷ sort.Register ∷ []
sorts keyword.Give = sort.Register ∷ []
sorts keyword.Get = three_at
sorts keyword.Put = three_at
sorts keyword.BranchZero = sort.Register ∷ sort.Number ∷ []
sorts keyword.BranchNonZero = sort.Register ∷ sort.Number ∷ []
sorts keyword.Room = sort.Number ∷ []
sorts keyword.StoreNew = sort.Number ∷ sort.Register ∷ []
sorts keyword.Next = sort.Number ∷ []
sorts keyword.End = []
sorts keyword.Trap = sort.Number ∷ sort.Number ∷ []
sorts keyword.Call = sort.Number ∷ sort.Number ∷ []
sorts keyword.CallTo = sort.Number ∷ sort.Number ∷ sort.Number ∷ []
sorts keyword.Fork = sort.Number ∷ sort.Number ∷ sort.Number ∷ []
sorts keyword.ForkTo = sort.Number ∷ sort.Number ∷ sort.Number ∷ sort.Slot ∷ sort.Slot ∷ []

-- the token at a place
abbrev pub token_at : List Token → ℕ → Token
token_at ts at = get_or ts at Other

abbrev pub is_absent : Token → Bool
is_absent Absent = true
is_absent _ = false

abbrev pub is_number : Token → Bool
is_number (Number n) = true
is_number _ = false

-- whether tokens may stand after a keyword at the front of a line; the arrays of the root are any number of numbers, and a `forkto` names one slot at least
abbrev pub has_form : Keyword → List Token → Bool
has_form keyword.Root ts = not (is_empty ts) && list_all is_number ts
has_form keyword.Slots ts = false
has_form keyword.Entry ts = false
has_form keyword.ForkTo ts = are_of (sorts keyword.ForkTo) ts && not (is_absent (token_at ts 3) && is_absent (token_at ts 4))
has_form k ts = are_of (sorts k) ts

-- the number of a token; one past 2^32 - 1 stands as that
abbrev pub number_of : Token → ℕ
number_of (Number n) = min n (2 ^ 32 - 1)
number_of _ = 0

abbrev pub number_at : List Token → ℕ → ℕ
number_at ts at = number_of (token_at ts at)

-- the slot of a token, if it names one
abbrev pub slot_of : Token → Option ℕ
slot_of (Number n) = Some (min n (2 ^ 32 - 1))
slot_of _ = None

-- the register with a number, or the last one
abbrev pub register_with : (n : ℕ) → (small : Bool) → nat_lt n 64 ≡ small → Register
register_with n true h = record { index = n; in_range = ltb-true n 64 h }
register_with n false h = record { index = 63; in_range = ltb-true 63 64 refl }

abbrev pub register_of : Token → Register
register_of (RegisterToken n) = register_with n (nat_lt n 64) refl
register_of _ = register_with 63 true refl

abbrev pub register_at : List Token → ℕ → Register
register_at ts at = register_of (token_at ts at)

-- the constant of a token, where it fits 64 bits
abbrev pub constant_of : Token → Option ℤ
constant_of (Number n) = if nat_lt n (2 ^ 63) then Some (pos n) else None
constant_of (Negative n) = if nat_le n (2 ^ 63) then Some (negsuc (n - 1)) else None
constant_of _ = None

-- the trap with a number from 1 to 4
abbrev pub trap_of : ℕ → Option Trap
trap_of n = if n == 1 then Some Overflow else (if n == 2 then Some DivZero else (if n == 3 then Some Index else (if n == 4 then Some Split else None)))

-- whether each register is there
abbrev pub is_register : Token → Bool
is_register (RegisterToken n) = nat_lt n 64
is_register _ = true

abbrev pub constant : Register → Option ℤ → Option Instr
constant d None = None
constant d (Some z) = Some (Const d z)

abbrev pub trapping : Option Trap → ℕ → Option Instr
trapping None at = None
trapping (Some trap) at = Some (Ends (Trapping trap at))

-- the instruction of a line, if its constant or trap is there
abbrev pub instr_of : Keyword → List Token → Option Instr
instr_of keyword.Const ts = constant (register_at ts 0) (constant_of (token_at ts 1))
instr_of keyword.Move ts = Some (Move (register_at ts 0) (register_at ts 1))
instr_of keyword.Add ts = Some (Add (register_at ts 0) (register_at ts 1) (register_at ts 2) (number_at ts 3))
instr_of keyword.Sub ts = Some (Sub (register_at ts 0) (register_at ts 1) (register_at ts 2) (number_at ts 3))
instr_of keyword.Mul ts = Some (Mul (register_at ts 0) (register_at ts 1) (register_at ts 2) (number_at ts 3))
instr_of keyword.Div ts = Some (Div (register_at ts 0) (register_at ts 1) (register_at ts 2) (number_at ts 3))
instr_of keyword.Rem ts = Some (Rem (register_at ts 0) (register_at ts 1) (register_at ts 2) (number_at ts 3))
instr_of keyword.Equal ts = Some (Equal (register_at ts 0) (register_at ts 1) (register_at ts 2))
instr_of keyword.NotEqual ts = Some (NotEqual (register_at ts 0) (register_at ts 1) (register_at ts 2))
instr_of keyword.Less ts = Some (Less (register_at ts 0) (register_at ts 1) (register_at ts 2))
instr_of keyword.AtMost ts = Some (AtMost (register_at ts 0) (register_at ts 1) (register_at ts 2))
instr_of keyword.Len ts = Some (Len (register_at ts 0) (register_at ts 1))
instr_of keyword.CutLeft ts = Some (CutLeft (register_at ts 0) (register_at ts 1) (register_at ts 2) (number_at ts 3))
instr_of keyword.CutRight ts = Some (CutRight (register_at ts 0) (register_at ts 1) (register_at ts 2) (number_at ts 3))
instr_of keyword.LoadSlot ts = Some (LoadSlot (register_at ts 0) (number_at ts 1))
instr_of keyword.StoreCur ts = Some (StoreCur (number_at ts 0) (register_at ts 1))
instr_of keyword.Give ts = Some (Give (register_at ts 0))
instr_of keyword.Get ts = Some (Get (register_at ts 0) (register_at ts 1) (register_at ts 2) (number_at ts 3))
instr_of keyword.Put ts = Some (Put (register_at ts 0) (register_at ts 1) (register_at ts 2) (number_at ts 3))
instr_of keyword.BranchZero ts = Some (BranchZero (register_at ts 0) (number_at ts 1))
instr_of keyword.BranchNonZero ts = Some (BranchNonZero (register_at ts 0) (number_at ts 1))
instr_of keyword.Room ts = Some (Room (number_at ts 0))
instr_of keyword.StoreNew ts = Some (StoreNew (number_at ts 0) (register_at ts 1))
instr_of keyword.Next ts = Some (Ends (Next (number_at ts 0)))
instr_of keyword.End ts = Some (Ends Finish)
instr_of keyword.Trap ts = trapping (trap_of (number_at ts 0)) (number_at ts 1)
instr_of keyword.Call ts = Some (Ends (Call (number_at ts 0) (number_at ts 1) None))
instr_of keyword.CallTo ts = Some (Ends (Call (number_at ts 0) (number_at ts 1) (Some (number_at ts 2))))
instr_of keyword.Fork ts = Some (Ends (Fork (number_at ts 0) (number_at ts 1) (number_at ts 2) None None))
instr_of keyword.ForkTo ts =
    Some (Ends (Fork (number_at ts 0) (number_at ts 1) (number_at ts 2) (slot_of (token_at ts 3)) (slot_of (token_at ts 4))))
instr_of _ ts = None

-- what a line says by its keyword
abbrev pub part_of : Keyword → List Token → Part
part_of keyword.Ppm ts = part.Version
part_of keyword.Root ts = part.Root (number_at ts 0) (map number_of (drop 1 ts))
part_of keyword.Proc ts = part.Procedure (number_at ts 0) (number_at ts 2) (number_at ts 4)
part_of keyword.Capsule ts = part.Capsule (number_at ts 0) (number_at ts 2)
part_of k ts = part.Instr (if list_all is_register ts then instr_of k ts else None)

-- what tokens say; `None` where they have no form
abbrev pub part_in : List Token → Option Part
part_in (Name k ∷ ts) = if has_form k ts then Some (part_of k ts) else None
part_in _ = None

-- whether a token may stand after eight others: only the root's line is so long, and has numbers
abbrev pub may_go_on : List Token → Token → Bool
may_go_on (Name keyword.Root ∷ ts) t = is_number t
may_go_on _ t = false

-- what the bytes of a line say, without its line feed
abbrev pub line_of : List ℕ → Option Part
line_of bytes = part_in (tokens_of bytes)

-- what follows the last line feed is a line of no form, or nothing
abbrev pub unended : List ℕ → List (Option Part)
unended [] = []
unended (b ∷ bs) = None ∷ []

-- what each line says, by the pieces between line feeds
abbrev pub lines_in : List (List ℕ) → List (Option Part)
lines_in [] = []
lines_in (p ∷ []) = unended p
lines_in (p ∷ q ∷ ps) = line_of p ∷ lines_in (q ∷ ps)

-- what each line of a text says
abbrev pub lines_of : List ℕ → List (Option Part)
lines_of text = lines_in (split 10 text)

-- The text of a line: its tokens, with one space between two, and a line feed.
use Rattle.std.specs.Prelude.{ℕ, List, [], ◌∷◌, ◌++◌, codes, decimal}
use Rattle.std.specs.List.{flat_map}
use Rattle.std.specs.Fmt.{signed_decimal}
use Rattle.ppm_listing.specs.declared.keyword.Keyword.{Keyword}
use Rattle.ppm_listing.specs.declared.keyword.Keyword.TheVariants as keyword
use Rattle.ppm_listing.specs.declared.token.Token.{Token}
use Rattle.ppm_listing.specs.declared.token.Token.TheVariants.{Name, Register, Number, Absent}

-- how a keyword is spelled
abbrev pub keyword_text : Keyword → List ℕ
keyword_text keyword.Ppm = codes "ppm"
keyword_text keyword.Root = codes "root"
keyword_text keyword.Proc = codes "proc"
keyword_text keyword.Slots = codes "slots"
keyword_text keyword.Entry = codes "entry"
keyword_text keyword.Capsule = codes "capsule"
keyword_text keyword.Const = codes "const"
keyword_text keyword.Move = codes "move"
keyword_text keyword.Add = codes "add"
keyword_text keyword.Sub = codes "sub"
keyword_text keyword.Mul = codes "mul"
keyword_text keyword.Div = codes "div"
keyword_text keyword.Rem = codes "rem"
keyword_text keyword.Equal = codes "eq"
keyword_text keyword.NotEqual = codes "ne"
keyword_text keyword.Less = codes "lt"
keyword_text keyword.AtMost = codes "le"
keyword_text keyword.Len = codes "len"
keyword_text keyword.CutLeft = codes "cutl"
keyword_text keyword.CutRight = codes "cutr"
keyword_text keyword.LoadSlot = codes "loadslot"
keyword_text keyword.StoreCur = codes "storecur"
keyword_text keyword.Give = codes "give"
keyword_text keyword.Get = codes "get"
keyword_text keyword.Put = codes "put"
keyword_text keyword.BranchZero = codes "branchz"
keyword_text keyword.BranchNonZero = codes "branchnz"
keyword_text keyword.Room = codes "room"
keyword_text keyword.StoreNew = codes "storenew"
keyword_text keyword.Next = codes "next"
keyword_text keyword.End = codes "end"
keyword_text keyword.Trap = codes "trap"
keyword_text keyword.Call = codes "call"
keyword_text keyword.CallTo = codes "callto"
keyword_text keyword.Fork = codes "fork"
keyword_text keyword.ForkTo = codes "forkto"

-- a token: a keyword, a register as `r7`, a number in decimal, or `-` where no slot is named
abbrev pub token_text : Token → List ℕ
token_text (Name k) = keyword_text k
token_text (Register r) = 114 ∷ decimal r.index
token_text (Number z) = signed_decimal z
token_text Absent = 45 ∷ []

-- a line: a keyword, and the tokens after it
pub record Line : Type 0 where
  pub keyword : Keyword
  pub operands : List Token

abbrev pub line : Keyword → List Token → Line
line k operands = record { keyword = k; operands = operands }

-- a space and the token
abbrev pub operand_text : Token → List ℕ
operand_text t = 32 ∷ token_text t

-- the text of a line, up to its line feed
abbrev pub line_text : Line → List ℕ
line_text l = keyword_text l.keyword ++ flat_map operand_text l.operands ++ 10 ∷ []

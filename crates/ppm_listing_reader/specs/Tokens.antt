-- The tokens of a line, each with its one spelling; numbers may be of any size.
use Rattle.std.specs.Prelude.{ℕ, ◌+◌, ◌-◌, ◌*◌, ◌^◌, ◌==◌, min, Bool, true, false, not, ◌&&◌, nat_le, if◌then◌else◌, List, [], ◌∷◌, map, Option, Some, None}
use Rattle.std.specs.List.{list_all}
use Rattle.std.specs.Str.{bytes_eq}
pub use Rattle.ppm_pieces.specs.Pieces.{in_front, split}
pub use Rattle.ppm_pieces.specs.Numbers.{is_digit, is_empty, is_numeral, value_from, value, value_limit}
use Rattle.ppm_listing.specs.declared.keyword.Keyword.{Keyword}
use Rattle.ppm_listing.specs.declared.keyword.Keyword.TheVariants as keyword
use Rattle.ppm_listing.specs.Tokens.{keyword_text}
use Rattle.ppm_listing_reader.specs.declared.token.Token.{Token}
use Rattle.ppm_listing_reader.specs.declared.token.Token.TheVariants.{Name, Register, Number, Negative, Absent, Other}

-- all keywords
abbrev pub keywords : List Keyword
keywords =
    keyword.Ppm ∷ keyword.Root ∷ keyword.Proc ∷ keyword.Slots ∷ keyword.Entry ∷ keyword.Capsule
    ∷ keyword.Const ∷ keyword.Move ∷ keyword.Add ∷ keyword.Sub ∷ keyword.Mul ∷ keyword.Div
    ∷ keyword.Rem ∷ keyword.Equal ∷ keyword.NotEqual ∷ keyword.Less ∷ keyword.AtMost ∷ keyword.Len
    ∷ keyword.CutLeft ∷ keyword.CutRight ∷ keyword.LoadSlot ∷ keyword.StoreCur ∷ keyword.Give ∷ keyword.Get
    ∷ keyword.Put ∷ keyword.BranchZero ∷ keyword.BranchNonZero ∷ keyword.Room ∷ keyword.StoreNew ∷ keyword.Next
    ∷ keyword.End ∷ keyword.Trap ∷ keyword.Call ∷ keyword.CallTo ∷ keyword.Fork ∷ keyword.ForkTo ∷ []

-- the first of some keywords that has this spelling
abbrev pub spelled : List Keyword → List ℕ → Option Keyword
spelled [] bytes = None
spelled (k ∷ ks) bytes = if bytes_eq (keyword_text k) bytes then Some k else spelled ks bytes

-- the keyword of this spelling
unfoldable pub keyword_of : List ℕ → Option Keyword
keyword_of bytes = spelled keywords bytes

-- the token of a keyword, if it is one
abbrev pub named : Option Keyword → Token
named None = Other
named (Some k) = Name k

-- the token after a minus: a number that is not 0, or none at all
abbrev pub minus : List ℕ → Token
minus [] = Absent
minus (d ∷ ds) = if is_numeral (d ∷ ds) && not (d == 48) then Negative (value (d ∷ ds)) else Other

-- the token of a word: by its first byte a number, a register or a keyword
abbrev pub token_of : List ℕ → Token
token_of [] = Other
token_of (b ∷ bs) =
    if b == 45 then minus bs else
    (if is_digit b then (if is_numeral (b ∷ bs) then Number (value (b ∷ bs)) else Other) else
    (if b == 114 && is_numeral bs then Register (value bs) else named (keyword_of (b ∷ bs))))

-- the tokens of a line, one between two spaces
abbrev pub tokens_of : List ℕ → List Token
tokens_of line = map token_of (split 32 line)

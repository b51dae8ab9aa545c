-- With which words a line of a listing may begin, by the lines above it, and what stands after them.
use Rattle.std.specs.Prelude.{ℕ, zero, suc, ◌-◌, ◌==◌, if◌then◌else◌, Bool, true, false, not, ◌||◌, nat_lt, is_some, List, [], ◌∷◌, ◌++◌, map, get_or, codes, Option}
use Rattle.std.specs.Str.{bytes_eq}
use Rattle.ppm_listing.specs.declared.keyword.Keyword.{Keyword}
use Rattle.ppm_listing.specs.declared.keyword.Keyword.TheVariants as keyword
use Rattle.ppm_listing.specs.Tokens.{keyword_text}
use Rattle.ppm_listing_reader.specs.declared.form.Sort.{Sort}
use Rattle.ppm_listing_reader.specs.declared.form.Sort.TheVariants as sort
use Rattle.ppm_listing_reader.specs.declared.token.Token.{Token}
use Rattle.ppm_listing_reader.specs.declared.token.Token.TheVariants as token
use Rattle.ppm_listing_reader.specs.Forms.{is_of, is_absent, sorts, token_at}
use Rattle.ppm_listing_reader.specs.Tokens.{spelled}
use Rattle.ppm_notes.specs.declared.above.Above.{Above}
use Rattle.ppm_notes.specs.declared.wanted.Wanted.{Wanted}
use Rattle.ppm_notes.specs.declared.wanted.Wanted.TheVariants as wanted
use Rattle.ppm_notes.specs.Words.{begins_capsule, first_word, wanted_text}

-- the keywords of instructions, and that of the next capsule
abbrev pub within : List Keyword
within =
    keyword.Capsule ∷ keyword.Const ∷ keyword.Move ∷ keyword.Add ∷ keyword.Sub ∷ keyword.Mul ∷ keyword.Div ∷ keyword.Rem
    ∷ keyword.Equal ∷ keyword.NotEqual ∷ keyword.Less ∷ keyword.AtMost ∷ keyword.Len ∷ keyword.CutLeft ∷ keyword.CutRight
    ∷ keyword.LoadSlot ∷ keyword.StoreCur ∷ keyword.Give ∷ keyword.Get ∷ keyword.Put ∷ keyword.BranchZero
    ∷ keyword.BranchNonZero ∷ keyword.Room ∷ keyword.StoreNew ∷ keyword.Next ∷ keyword.End ∷ keyword.Trap ∷ keyword.Call
    ∷ keyword.CallTo ∷ keyword.Fork ∷ keyword.ForkTo ∷ []

-- the keywords of the lines that may have a form: the version's, the root's, that of a procedure or of the first capsule, or those in a capsule
abbrev pub heads : (line capsules : ℕ) → List Keyword
heads line capsules =
    if line == 1 then keyword.Ppm ∷ []
    else if line == 2 then keyword.Root ∷ []
    else if capsules == 0 then keyword.Proc ∷ keyword.Capsule ∷ []
    else within

-- the keyword of the form that a line has
abbrev pub lead_of : (line capsules : ℕ) → List ℕ → Option Keyword
lead_of line capsules bytes = spelled (heads line capsules) (first_word bytes)

-- whether a line ends its capsule
abbrev pub is_end : List ℕ → Bool
is_end line =
    is_some (spelled (keyword.Next ∷ keyword.End ∷ keyword.Trap ∷ keyword.Call ∷ keyword.CallTo ∷ keyword.Fork ∷ keyword.ForkTo ∷ []) (first_word line))

-- whether it asks for room
abbrev pub is_room : List ℕ → Bool
is_room line = bytes_eq (first_word line) (codes "room")

-- whether the capsule that goes on after a line asks for room: its first instruction does
abbrev pub room_by : (is_first has_room begins asks : Bool) → Bool
room_by is_first has_room true asks = false
room_by true has_room false asks = asks
room_by false has_room false asks = has_room

-- what is known after one more line
abbrev pub below : Above → List ℕ → Above
below a line = record {
  root = a.root;
  is_first = begins_capsule line;
  is_ended = is_end line;
  has_room = room_by a.is_first a.has_room (begins_capsule line) (is_room line);
}

-- and after the first so many lines
abbrev pub below_all : Above → ℕ → List (List ℕ) → Above
below_all a zero lines = a
below_all a (suc n) [] = a
below_all a (suc n) (l ∷ ls) = below_all (below a l) n ls

-- whether an instruction takes of the room that its capsule asks for
abbrev pub takes_room : Keyword → Bool
takes_room k =
    is_some (spelled (keyword.StoreNew ∷ keyword.Call ∷ keyword.CallTo ∷ keyword.Fork ∷ keyword.ForkTo ∷ []) (keyword_text k))

-- whether a line in a capsule may begin with a keyword, by the lines above: the next capsule comes after an end alone, and `room` is asked for by the
-- first instruction alone; without it no other takes any
abbrev pub may_lead : Above → Keyword → Bool
may_lead a k =
    if bytes_eq (keyword_text k) (codes "capsule") then a.is_ended
    else if bytes_eq (keyword_text k) (codes "room") then a.is_first
    else (a.has_room || not (takes_room k))

-- those of some keywords with which it may
abbrev pub if_leads : Above → Keyword → List Keyword
if_leads a k = if may_lead a k then k ∷ [] else []

abbrev pub leading : Above → List Keyword → List Keyword
leading a [] = []
leading a (k ∷ ks) = if_leads a k ++ leading a ks

-- The keywords with which a line may begin: the version's, the root's, that of a procedure, that of the first capsule once the root's procedure is
-- there, or those in a capsule.
abbrev pub leads : (line capsules : ℕ) → Above → List Keyword
leads line capsules a =
    if line == 1 then keyword.Ppm ∷ []
    else if line == 2 then keyword.Root ∷ []
    else if capsules == 0 then (if nat_lt a.root (line - 3) then keyword.Proc ∷ keyword.Capsule ∷ [] else keyword.Proc ∷ [])
    else leading a within

-- words of these sorts
abbrev pub sorted : List Sort → List Wanted
sorted ss = map (λ s. wanted.Word s) ss

-- of words of these sorts the first is a number
abbrev pub numbered : ℕ → List Sort → List Wanted
numbered n [] = []
numbered n (s ∷ ss) = wanted.Number n ∷ sorted ss

-- where the left branch of a fork has no slot, the right one has
abbrev pub forked : Bool → List Wanted
forked true = wanted.Word sort.Number ∷ wanted.Word sort.Number ∷ wanted.Word sort.Number ∷ wanted.Word sort.Slot ∷ wanted.Word sort.Number ∷ []
forked false = sorted (sorts keyword.ForkTo)

-- a number for each word, and one more
abbrev pub numbers : List Token → List Wanted
numbers [] = wanted.Word sort.Number ∷ []
numbers (t ∷ ts) = wanted.Word sort.Number ∷ numbers ts

-- what stands after a keyword: words of its sorts. Procedures and capsules count from 0; after `root` stands any number of numbers, one at least
abbrev pub operands : (line capsules : ℕ) → Keyword → List Token → List Wanted
operands line capsules keyword.Root ts = numbers ts
operands line capsules keyword.Proc ts = numbered (line - 3) (sorts keyword.Proc)
operands line capsules keyword.Capsule ts = numbered capsules (sorts keyword.Capsule)
operands line capsules keyword.ForkTo ts = forked (is_absent (token_at ts 3))
operands line capsules k ts = sorted (sorts k)

-- whether a token is a number
abbrev pub is_numbered : ℕ → Token → Bool
is_numbered n (token.Number m) = m == n
is_numbered n t = false

-- whether a token may stand where a word is wanted
abbrev pub fits : Wanted → Token → Bool
fits (wanted.Word s) t = is_of s t
fits (wanted.Number n) t = is_numbered n t
fits wanted.End t = false

-- how many tokens stand where they are wanted, in front of the first that does not
abbrev pub fitting : List Wanted → List Token → ℕ
fitting [] ts = 0
fitting (w ∷ ws) [] = 0
fitting (w ∷ ws) (t ∷ ts) = if fits w t then suc (fitting ws ts) else 0

-- after a number the line of the root may end
abbrev pub or_end : Keyword → ℕ → List ℕ
or_end keyword.Root (suc n) = codes ", the end of the line"
or_end k n = []

-- what could stand after a keyword and so many fitting words
abbrev pub operand_text : Keyword → List Wanted → ℕ → List ℕ
operand_text k ws n = wanted_text (get_or ws n wanted.End) ++ or_end k n

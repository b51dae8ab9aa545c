-- Keywords are told by their bytes: letters alone, and no two spelled alike.
use Rattle.std.proofs.Common.{◌≡◌, ◌∙◌, ℕ, Bool, true, false, ◌&&◌, cond, nat_lt, List, [], ◌∷◌, drop, Option, Some, None, refl, sym, ap}
use Rattle.std.specs.Str.{bytes_eq}
use Rattle.ppm_listing.specs.declared.keyword.Keyword.{Keyword}
use Rattle.ppm_listing.specs.declared.keyword.Keyword.TheVariants as keyword
use Rattle.ppm_listing.specs.Tokens.{keyword_text}

-- whether no byte ends a token, as a space and a line feed do
abbrev pub is_word : List ℕ → Bool
is_word [] = true
is_word (b ∷ bs) = nat_lt 32 b && is_word bs

-- whether the first byte is below the letters
abbrev pub is_low : List ℕ → Bool
is_low [] = false
is_low (b ∷ bs) = nat_lt b 58

-- all keywords
abbrev pub keywords : List Keyword
keywords =
    keyword.Ppm ∷ keyword.Root ∷ keyword.Proc ∷ keyword.Slots ∷ keyword.Entry ∷ keyword.Capsule
    ∷ keyword.Const ∷ keyword.Move ∷ keyword.Add ∷ keyword.Sub ∷ keyword.Mul ∷ keyword.Div
    ∷ keyword.Rem ∷ keyword.Equal ∷ keyword.NotEqual ∷ keyword.Less ∷ keyword.AtMost ∷ keyword.Len
    ∷ keyword.CutLeft ∷ keyword.CutRight ∷ keyword.LoadSlot ∷ keyword.StoreCur ∷ keyword.Give ∷ keyword.Get
    ∷ keyword.Put ∷ keyword.BranchZero ∷ keyword.BranchNonZero ∷ keyword.Room ∷ keyword.StoreNew ∷ keyword.Next
    ∷ keyword.End ∷ keyword.Trap ∷ keyword.Call ∷ keyword.CallTo ∷ keyword.Fork ∷ keyword.ForkTo ∷ []

-- the first of some keywords that has this spelling
abbrev pub first_spelled : List Keyword → List ℕ → Option Keyword
first_spelled [] bytes = None
first_spelled (k ∷ ks) bytes = cond (bytes_eq (keyword_text k) bytes) (Some k) (first_spelled ks bytes)

-- a spelling is a word that begins with two letters, and is that of one keyword
pub record IsSpelling (k : Keyword) (bytes : List ℕ) : Type 0 where
  pub word : is_word bytes ≡ true
  pub first : is_low bytes ≡ false
  pub second : is_low (drop 1 bytes) ≡ false
  pub only : first_spelled keywords bytes ≡ Some k

pub spelling : (k : Keyword) → IsSpelling k (keyword_text k)
spelling keyword.Ppm = record { word = refl; first = refl; second = refl; only = refl }
spelling keyword.Root = record { word = refl; first = refl; second = refl; only = refl }
spelling keyword.Proc = record { word = refl; first = refl; second = refl; only = refl }
spelling keyword.Slots = record { word = refl; first = refl; second = refl; only = refl }
spelling keyword.Entry = record { word = refl; first = refl; second = refl; only = refl }
spelling keyword.Capsule = record { word = refl; first = refl; second = refl; only = refl }
spelling keyword.Const = record { word = refl; first = refl; second = refl; only = refl }
spelling keyword.Move = record { word = refl; first = refl; second = refl; only = refl }
spelling keyword.Add = record { word = refl; first = refl; second = refl; only = refl }
spelling keyword.Sub = record { word = refl; first = refl; second = refl; only = refl }
spelling keyword.Mul = record { word = refl; first = refl; second = refl; only = refl }
spelling keyword.Div = record { word = refl; first = refl; second = refl; only = refl }
spelling keyword.Rem = record { word = refl; first = refl; second = refl; only = refl }
spelling keyword.Equal = record { word = refl; first = refl; second = refl; only = refl }
spelling keyword.NotEqual = record { word = refl; first = refl; second = refl; only = refl }
spelling keyword.Less = record { word = refl; first = refl; second = refl; only = refl }
spelling keyword.AtMost = record { word = refl; first = refl; second = refl; only = refl }
spelling keyword.Len = record { word = refl; first = refl; second = refl; only = refl }
spelling keyword.CutLeft = record { word = refl; first = refl; second = refl; only = refl }
spelling keyword.CutRight = record { word = refl; first = refl; second = refl; only = refl }
spelling keyword.LoadSlot = record { word = refl; first = refl; second = refl; only = refl }
spelling keyword.StoreCur = record { word = refl; first = refl; second = refl; only = refl }
spelling keyword.Give = record { word = refl; first = refl; second = refl; only = refl }
spelling keyword.Get = record { word = refl; first = refl; second = refl; only = refl }
spelling keyword.Put = record { word = refl; first = refl; second = refl; only = refl }
spelling keyword.BranchZero = record { word = refl; first = refl; second = refl; only = refl }
spelling keyword.BranchNonZero = record { word = refl; first = refl; second = refl; only = refl }
spelling keyword.Room = record { word = refl; first = refl; second = refl; only = refl }
spelling keyword.StoreNew = record { word = refl; first = refl; second = refl; only = refl }
spelling keyword.Next = record { word = refl; first = refl; second = refl; only = refl }
spelling keyword.End = record { word = refl; first = refl; second = refl; only = refl }
spelling keyword.Trap = record { word = refl; first = refl; second = refl; only = refl }
spelling keyword.Call = record { word = refl; first = refl; second = refl; only = refl }
spelling keyword.CallTo = record { word = refl; first = refl; second = refl; only = refl }
spelling keyword.Fork = record { word = refl; first = refl; second = refl; only = refl }
spelling keyword.ForkTo = record { word = refl; first = refl; second = refl; only = refl }

-- the keyword that is there, or any
abbrev some_keyword : Option Keyword → Keyword
some_keyword None = keyword.Ppm
some_keyword (Some k) = k

pub keyword_text_injective : (j k : Keyword) → keyword_text j ≡ keyword_text k → j ≡ k
keyword_text_injective j k e =
    ap some_keyword (sym (spelling j).only ∙ ap (first_spelled keywords) e ∙ (spelling k).only)

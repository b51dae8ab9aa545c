-- A line of many words has no form, but for the root's with a number in each place.
use Rattle.std.proofs.Common.{◌≡◌, ◌∙◌, ℕ, ◌<◌, ◌≤◌, Bool, true, false, not, ◌&&◌, cond, List, [], ◌∷◌, ◌++◌, map, length, Some, None, refl, sym, ap, arith}
use Rattle.std.proofs.Common.{length-append}
use Rattle.std.specs.List.{list_all}
use Rattle.ppm_listing.specs.declared.keyword.Keyword.{Keyword}
use Rattle.ppm_listing.specs.declared.keyword.Keyword.TheVariants as keyword
use Rattle.ppm_listing_reader.specs.declared.token.Token.{Token}
use Rattle.ppm_listing_reader.specs.declared.token.Token.TheVariants.{Name, Register, Number, Negative, Absent, Other}
use Rattle.ppm_listing_reader.specs.declared.form.Sort.{Sort}
use Rattle.ppm_listing_reader.specs.Tokens.{is_empty, split, token_of, tokens_of}
use Rattle.ppm_listing_reader.specs.Forms.{is_of, are_of, sorts, token_at, is_absent, is_number, has_form, part_of, part_in, may_go_on}

and_false : (a : Bool) → (a && false) ≡ false
and_false true = refl
and_false false = refl

-- more tokens than sorts
too_many : (ss : List Sort) (ts : List Token) → length ss < length ts → are_of ss ts ≡ false
too_many [] [] h = absurd (omega (arith, h))
too_many [] (t ∷ ts) h = refl
too_many (s ∷ ss) [] h = refl
too_many (s ∷ ss) (t ∷ ts) h = ap (λ b. is_of s t && b) (too_many ss ts (omega (arith, h))) ∙ and_false (is_of s t)

-- no form has more than five
sorts_few : (k : Keyword) → length (sorts k) ≤ 5
sorts_few keyword.Ppm = omega arith
sorts_few keyword.Root = omega arith
sorts_few keyword.Proc = omega arith
sorts_few keyword.Slots = omega arith
sorts_few keyword.Entry = omega arith
sorts_few keyword.Capsule = omega arith
sorts_few keyword.Const = omega arith
sorts_few keyword.Move = omega arith
sorts_few keyword.Add = omega arith
sorts_few keyword.Sub = omega arith
sorts_few keyword.Mul = omega arith
sorts_few keyword.Div = omega arith
sorts_few keyword.Rem = omega arith
sorts_few keyword.Equal = omega arith
sorts_few keyword.NotEqual = omega arith
sorts_few keyword.Less = omega arith
sorts_few keyword.AtMost = omega arith
sorts_few keyword.Len = omega arith
sorts_few keyword.CutLeft = omega arith
sorts_few keyword.CutRight = omega arith
sorts_few keyword.LoadSlot = omega arith
sorts_few keyword.StoreCur = omega arith
sorts_few keyword.Give = omega arith
sorts_few keyword.Get = omega arith
sorts_few keyword.Put = omega arith
sorts_few keyword.BranchZero = omega arith
sorts_few keyword.BranchNonZero = omega arith
sorts_few keyword.Room = omega arith
sorts_few keyword.StoreNew = omega arith
sorts_few keyword.Next = omega arith
sorts_few keyword.End = omega arith
sorts_few keyword.Trap = omega arith
sorts_few keyword.Call = omega arith
sorts_few keyword.CallTo = omega arith
sorts_few keyword.Fork = omega arith
sorts_few keyword.ForkTo = omega arith

-- one of them is no number
not_all : (ts more : List Token) (t : Token) → is_number t ≡ false → list_all is_number (ts ++ t ∷ more) ≡ false
not_all [] more t h = ap (λ b. b && list_all is_number more) h
not_all (u ∷ ts) more t h = ap (λ b. is_number u && b) (not_all ts more t h) ∙ and_false (is_number u)

longer : (k : Keyword) (ts more : List Token) (t : Token) → 7 ≤ length ts → length (sorts k) < length (ts ++ t ∷ more)
longer k ts more t h = omega (arith, h, sorts_few k, length-append ts (t ∷ more))

no_form : (k : Keyword) (ts more : List Token) (t : Token) → 7 ≤ length ts → may_go_on (Name k ∷ ts) t ≡ false → has_form k (ts ++ t ∷ more) ≡ false
no_form keyword.Ppm ts more t h m = too_many (sorts keyword.Ppm) (ts ++ t ∷ more) (longer keyword.Ppm ts more t h)
no_form keyword.Root ts more t h m = ap (λ b. not (is_empty (ts ++ t ∷ more)) && b) (not_all ts more t m) ∙ and_false (not (is_empty (ts ++ t ∷ more)))
no_form keyword.Proc ts more t h m = too_many (sorts keyword.Proc) (ts ++ t ∷ more) (longer keyword.Proc ts more t h)
no_form keyword.Slots ts more t h m = refl
no_form keyword.Entry ts more t h m = refl
no_form keyword.Capsule ts more t h m = too_many (sorts keyword.Capsule) (ts ++ t ∷ more) (longer keyword.Capsule ts more t h)
no_form keyword.Const ts more t h m = too_many (sorts keyword.Const) (ts ++ t ∷ more) (longer keyword.Const ts more t h)
no_form keyword.Move ts more t h m = too_many (sorts keyword.Move) (ts ++ t ∷ more) (longer keyword.Move ts more t h)
no_form keyword.Add ts more t h m = too_many (sorts keyword.Add) (ts ++ t ∷ more) (longer keyword.Add ts more t h)
no_form keyword.Sub ts more t h m = too_many (sorts keyword.Sub) (ts ++ t ∷ more) (longer keyword.Sub ts more t h)
no_form keyword.Mul ts more t h m = too_many (sorts keyword.Mul) (ts ++ t ∷ more) (longer keyword.Mul ts more t h)
no_form keyword.Div ts more t h m = too_many (sorts keyword.Div) (ts ++ t ∷ more) (longer keyword.Div ts more t h)
no_form keyword.Rem ts more t h m = too_many (sorts keyword.Rem) (ts ++ t ∷ more) (longer keyword.Rem ts more t h)
no_form keyword.Equal ts more t h m = too_many (sorts keyword.Equal) (ts ++ t ∷ more) (longer keyword.Equal ts more t h)
no_form keyword.NotEqual ts more t h m = too_many (sorts keyword.NotEqual) (ts ++ t ∷ more) (longer keyword.NotEqual ts more t h)
no_form keyword.Less ts more t h m = too_many (sorts keyword.Less) (ts ++ t ∷ more) (longer keyword.Less ts more t h)
no_form keyword.AtMost ts more t h m = too_many (sorts keyword.AtMost) (ts ++ t ∷ more) (longer keyword.AtMost ts more t h)
no_form keyword.Len ts more t h m = too_many (sorts keyword.Len) (ts ++ t ∷ more) (longer keyword.Len ts more t h)
no_form keyword.CutLeft ts more t h m = too_many (sorts keyword.CutLeft) (ts ++ t ∷ more) (longer keyword.CutLeft ts more t h)
no_form keyword.CutRight ts more t h m = too_many (sorts keyword.CutRight) (ts ++ t ∷ more) (longer keyword.CutRight ts more t h)
no_form keyword.LoadSlot ts more t h m = too_many (sorts keyword.LoadSlot) (ts ++ t ∷ more) (longer keyword.LoadSlot ts more t h)
no_form keyword.StoreCur ts more t h m = too_many (sorts keyword.StoreCur) (ts ++ t ∷ more) (longer keyword.StoreCur ts more t h)
no_form keyword.Give ts more t h m = too_many (sorts keyword.Give) (ts ++ t ∷ more) (longer keyword.Give ts more t h)
no_form keyword.Get ts more t h m = too_many (sorts keyword.Get) (ts ++ t ∷ more) (longer keyword.Get ts more t h)
no_form keyword.Put ts more t h m = too_many (sorts keyword.Put) (ts ++ t ∷ more) (longer keyword.Put ts more t h)
no_form keyword.BranchZero ts more t h m = too_many (sorts keyword.BranchZero) (ts ++ t ∷ more) (longer keyword.BranchZero ts more t h)
no_form keyword.BranchNonZero ts more t h m = too_many (sorts keyword.BranchNonZero) (ts ++ t ∷ more) (longer keyword.BranchNonZero ts more t h)
no_form keyword.Room ts more t h m = too_many (sorts keyword.Room) (ts ++ t ∷ more) (longer keyword.Room ts more t h)
no_form keyword.StoreNew ts more t h m = too_many (sorts keyword.StoreNew) (ts ++ t ∷ more) (longer keyword.StoreNew ts more t h)
no_form keyword.Next ts more t h m = too_many (sorts keyword.Next) (ts ++ t ∷ more) (longer keyword.Next ts more t h)
no_form keyword.End ts more t h m = too_many (sorts keyword.End) (ts ++ t ∷ more) (longer keyword.End ts more t h)
no_form keyword.Trap ts more t h m = too_many (sorts keyword.Trap) (ts ++ t ∷ more) (longer keyword.Trap ts more t h)
no_form keyword.Call ts more t h m = too_many (sorts keyword.Call) (ts ++ t ∷ more) (longer keyword.Call ts more t h)
no_form keyword.CallTo ts more t h m = too_many (sorts keyword.CallTo) (ts ++ t ∷ more) (longer keyword.CallTo ts more t h)
no_form keyword.Fork ts more t h m = too_many (sorts keyword.Fork) (ts ++ t ∷ more) (longer keyword.Fork ts more t h)
no_form keyword.ForkTo ts more t h m =
    ap (λ b. b && not (is_absent (token_at (ts ++ t ∷ more) 3) && is_absent (token_at (ts ++ t ∷ more) 4)))
    (too_many (sorts keyword.ForkTo) (ts ++ t ∷ more) (longer keyword.ForkTo ts more t h))

no_part : (ts more : List Token) (t : Token) → 8 ≤ length ts → may_go_on ts t ≡ false → part_in (ts ++ t ∷ more) ≡ None
no_part [] more t h m = absurd (omega (arith, h))
no_part (Name k ∷ ts) more t h m = ap (λ b. cond b (Some (part_of k (ts ++ t ∷ more))) None) (no_form k ts more t (omega (arith, h)) m)
no_part (Register n ∷ ts) more t h m = refl
no_part (Number n ∷ ts) more t h m = refl
no_part (Negative n ∷ ts) more t h m = refl
no_part (Absent ∷ ts) more t h m = refl
no_part (Other ∷ ts) more t h m = refl

-- the words of a line so far, the next one, and the rest
pub no_line : (line left word rest : List ℕ) (ts : List Token) → ts ++ tokens_of left ≡ tokens_of line → split 32 left ≡ word ∷ split 32 rest
    → 8 ≤ length ts → may_go_on ts (token_of word) ≡ false → part_in (tokens_of line) ≡ None
no_line line left word rest ts same pieces many m =
    ap part_in (sym same ∙ ap (λ ps. ts ++ map token_of ps) pieces) ∙ no_part ts (tokens_of rest) (token_of word) many m

-- What a line says tells its text.
use Rattle.std.proofs.Common.{◌≡◌, ◌∙◌, ℕ, ◌+◌, ◌-◌, ◌*◌, ◌≤◌, ◌==◌, Bool, true, false, not, ◌&&◌, cond, List, [], ◌∷◌, map, Option, Some, None}
use Rattle.std.proofs.Common.{refl, sym, ap, subst, arith}
use Rattle.std.specs.List.{list_all, AllByRecursion}
use Rattle.std.proofs.lemmas.Bool.{both_ways, not-true}
use Rattle.ppm_listing.specs.declared.keyword.Keyword.{Keyword}
use Rattle.ppm_listing.specs.declared.keyword.Keyword.TheVariants as keyword
use Rattle.ppm_listing.specs.declared.token.Token.{Token as Written}
use Rattle.ppm_listing.specs.Tokens.{line, line_text}
use Rattle.ppm_listing.specs.Listing.{number}
use Rattle.ppm_listing.specs.Correct.{LineFits}
use Rattle.ppm_listing_reader.specs.declared.token.Token.{Token}
use Rattle.ppm_listing_reader.specs.declared.token.Token.TheVariants.{Name, Register, Number, Negative, Absent, Other}
use Rattle.ppm_listing_reader.specs.declared.part.Part.{Part}
use Rattle.ppm_listing_reader.specs.Tokens.{is_digit, is_numeral, value, named, keyword_of, minus, split, token_of, tokens_of}
use Rattle.ppm_listing_reader.specs.Forms.{are_of, sorts, token_at, is_absent, is_number, has_form, number_of, part_of, part_in, line_of}
use Rattle.ppm_pieces.proofs.NumberLemmas.{both_parts, value_grows, first_digit, digit_bounds}
use Rattle.ppm_listing_reader.proofs.FormLemmas.{IsProper, IsSmall, IsSmallLine, AreRight, all_rewritten, AreTokens, None_left, One_more, all_tokens}
use Rattle.ppm_listing_reader.proofs.FormLemmas.{small_number, part_line, IsWholePart, Tells, told}
use Rattle.ppm_listing_reader.proofs.LineLemmas.{HasText, line_written}

-- a number after a minus is not 0
proper_minus : (bs : List ℕ) → IsProper (minus bs)
proper_minus [] = tt
proper_minus (d ∷ ds) = go (is_numeral (d ∷ ds) && not (d == 48)) refl
  where
    go : (test : Bool) → (is_numeral (d ∷ ds) && not (d == 48)) ≡ test → IsProper (cond test (Negative (value (d ∷ ds))) Other)
    go true e =
        let tests = both_parts (is_numeral (d ∷ ds)) (not (d == 48)) e in
        let low = (digit_bounds d (first_digit d ds tests.0)).0 in
        let other : d ≡ 48 → ⊥ = λ z. both_ways (d == 48) (not-true (d == 48) tests.1) (rw z refl) in
        let above : 1 ≤ d - 48 = above_zero low other in
        omega (arith, value_grows (0 * 10 + (d - 48)) ds, above)
      where
        above_zero : 48 ≤ d → (d ≡ 48 → ⊥) → 1 ≤ d - 48
        above_zero low other = grind (arith, other)
    go false e = tt

proper_named : (found : Option Keyword) → IsProper (named found)
proper_named None = tt
proper_named (Some k) = tt

proper_token : (bs : List ℕ) → IsProper (token_of bs)
proper_token [] = tt
proper_token (b ∷ bs) = go (b == 45) (is_digit b) (is_numeral (b ∷ bs)) (b == 114 && is_numeral bs)
  where
    go : (a d n r : Bool) → IsProper (cond a (minus bs) (cond d (cond n (Number (value (b ∷ bs))) Other)
        (cond r (Register (value bs)) (named (keyword_of (b ∷ bs))))))
    go true d n r = proper_minus bs
    go false true true r = tt
    go false true false r = tt
    go false false n true = tt
    go false false n false = proper_named (keyword_of (b ∷ bs))

proper_tokens : (ws : List (List ℕ)) → AllByRecursion IsProper (map token_of ws)
proper_tokens [] = tt
proper_tokens (w ∷ ws) = (proper_token w, proper_tokens ws)

-- the line of a part, by the tokens after its keyword
pub record Said (k : Keyword) (ts : List Token) (x : Part) : Type 0 where
  pub operands : List Written
  pub line : part_line x ≡ line k operands
  pub are : AreTokens ts operands

by_tells : (k : Keyword) (ts : List Token) (x : Part) → are_of (sorts k) ts ≡ true → AllByRecursion IsProper ts → Tells k ts x
    → (IsSmallLine (line k (all_rewritten 0 (sorts k) ts)) → AreRight (sorts k) (all_rewritten 0 (sorts k) ts)) → IsSmallLine (part_line x) → Said k ts x
by_tells k ts x f p tells right r = record {
  operands = all_rewritten 0 (sorts k) ts;
  line = tells.line;
  are = all_tokens (sorts k) 0 ts ts refl p f tells.named (right (subst IsSmallLine tells.line r));
}

numbers_said : (ts : List Token) → list_all is_number ts ≡ true → AllByRecursion IsSmall (map number (map number_of ts))
    → AreTokens ts (map number (map number_of ts))
numbers_said [] f r = None_left
numbers_said (Number n ∷ ts) f r = One_more (Number n) _ ts _ (small_number n r.0) (numbers_said ts f r.1)
numbers_said (Name k ∷ ts) f r = absurd (both_ways false refl f)
numbers_said (Register n ∷ ts) f r = absurd (both_ways false refl f)
numbers_said (Negative n ∷ ts) f r = absurd (both_ways false refl f)
numbers_said (Absent ∷ ts) f r = absurd (both_ways false refl f)
numbers_said (Other ∷ ts) f r = absurd (both_ways false refl f)

root_said : (ts : List Token) (x : Part) → has_form keyword.Root ts ≡ true → part_of keyword.Root ts ≡ x → IsSmallLine (part_line x) → Said keyword.Root ts x
root_said [] x f e r = absurd (both_ways false refl f)
root_said (t ∷ ts) x f e r = subst (Said keyword.Root (t ∷ ts)) e (record {
  operands = map number (map number_of (t ∷ ts));
  line = refl;
  are = numbers_said (t ∷ ts) f (subst (λ y. IsSmallLine (part_line y)) (sym e) r);
})

said : (k : Keyword) (ts : List Token) (x : Part) → has_form k ts ≡ true → AllByRecursion IsProper ts → part_of k ts ≡ x → IsWholePart x
    → IsSmallLine (part_line x) → Said k ts x
said keyword.Root ts x f p e w r = root_said ts x f e r
said keyword.Ppm ts x f p e w r = by_tells keyword.Ppm ts x f p (told keyword.Ppm ts x (λ q. cc) f e w) (λ l. l) r
said keyword.Proc ts x f p e w r = by_tells keyword.Proc ts x f p (told keyword.Proc ts x (λ q. cc) f e w) (λ l. l) r
said keyword.Slots ts x f p e w r = absurd (both_ways false refl f)
said keyword.Entry ts x f p e w r = absurd (both_ways false refl f)
said keyword.Capsule ts x f p e w r = by_tells keyword.Capsule ts x f p (told keyword.Capsule ts x (λ q. cc) f e w) (λ l. l) r
said keyword.Const ts x f p e w r = by_tells keyword.Const ts x f p (told keyword.Const ts x (λ q. cc) f e w) (λ l. l) r
said keyword.Move ts x f p e w r = by_tells keyword.Move ts x f p (told keyword.Move ts x (λ q. cc) f e w) (λ l. l) r
said keyword.Add ts x f p e w r = by_tells keyword.Add ts x f p (told keyword.Add ts x (λ q. cc) f e w) (λ l. l) r
said keyword.Sub ts x f p e w r = by_tells keyword.Sub ts x f p (told keyword.Sub ts x (λ q. cc) f e w) (λ l. l) r
said keyword.Mul ts x f p e w r = by_tells keyword.Mul ts x f p (told keyword.Mul ts x (λ q. cc) f e w) (λ l. l) r
said keyword.Div ts x f p e w r = by_tells keyword.Div ts x f p (told keyword.Div ts x (λ q. cc) f e w) (λ l. l) r
said keyword.Rem ts x f p e w r = by_tells keyword.Rem ts x f p (told keyword.Rem ts x (λ q. cc) f e w) (λ l. l) r
said keyword.Equal ts x f p e w r = by_tells keyword.Equal ts x f p (told keyword.Equal ts x (λ q. cc) f e w) (λ l. l) r
said keyword.NotEqual ts x f p e w r = by_tells keyword.NotEqual ts x f p (told keyword.NotEqual ts x (λ q. cc) f e w) (λ l. l) r
said keyword.Less ts x f p e w r = by_tells keyword.Less ts x f p (told keyword.Less ts x (λ q. cc) f e w) (λ l. l) r
said keyword.AtMost ts x f p e w r = by_tells keyword.AtMost ts x f p (told keyword.AtMost ts x (λ q. cc) f e w) (λ l. l) r
said keyword.Len ts x f p e w r = by_tells keyword.Len ts x f p (told keyword.Len ts x (λ q. cc) f e w) (λ l. l) r
said keyword.CutLeft ts x f p e w r = by_tells keyword.CutLeft ts x f p (told keyword.CutLeft ts x (λ q. cc) f e w) (λ l. l) r
said keyword.CutRight ts x f p e w r = by_tells keyword.CutRight ts x f p (told keyword.CutRight ts x (λ q. cc) f e w) (λ l. l) r
said keyword.LoadSlot ts x f p e w r = by_tells keyword.LoadSlot ts x f p (told keyword.LoadSlot ts x (λ q. cc) f e w) (λ l. l) r
said keyword.StoreCur ts x f p e w r = by_tells keyword.StoreCur ts x f p (told keyword.StoreCur ts x (λ q. cc) f e w) (λ l. l) r
said keyword.Give ts x f p e w r = by_tells keyword.Give ts x f p (told keyword.Give ts x (λ q. cc) f e w) (λ l. l) r
said keyword.Get ts x f p e w r = by_tells keyword.Get ts x f p (told keyword.Get ts x (λ q. cc) f e w) (λ l. l) r
said keyword.Put ts x f p e w r = by_tells keyword.Put ts x f p (told keyword.Put ts x (λ q. cc) f e w) (λ l. l) r
said keyword.BranchZero ts x f p e w r = by_tells keyword.BranchZero ts x f p (told keyword.BranchZero ts x (λ q. cc) f e w) (λ l. l) r
said keyword.BranchNonZero ts x f p e w r = by_tells keyword.BranchNonZero ts x f p (told keyword.BranchNonZero ts x (λ q. cc) f e w) (λ l. l) r
said keyword.Room ts x f p e w r = by_tells keyword.Room ts x f p (told keyword.Room ts x (λ q. cc) f e w) (λ l. l) r
said keyword.StoreNew ts x f p e w r = by_tells keyword.StoreNew ts x f p (told keyword.StoreNew ts x (λ q. cc) f e w) (λ l. l) r
said keyword.Next ts x f p e w r = by_tells keyword.Next ts x f p (told keyword.Next ts x (λ q. cc) f e w) (λ l. l) r
said keyword.End ts x f p e w r = by_tells keyword.End ts x f p (told keyword.End ts x (λ q. cc) f e w) (λ l. l) r
said keyword.Trap ts x f p e w r = by_tells keyword.Trap ts x f p (told keyword.Trap ts x (λ q. cc) f e w) (λ l. l) r
said keyword.Call ts x f p e w r = by_tells keyword.Call ts x f p (told keyword.Call ts x (λ q. cc) f e w) (λ l. l) r
said keyword.CallTo ts x f p e w r = by_tells keyword.CallTo ts x f p (told keyword.CallTo ts x (λ q. cc) f e w) (λ l. l) r
said keyword.Fork ts x f p e w r = by_tells keyword.Fork ts x f p (told keyword.Fork ts x (λ q. cc) f e w) (λ l. l) r
said keyword.ForkTo ts x f p e w r =
    let tests = both_parts (are_of (sorts keyword.ForkTo) ts) (not (is_absent (token_at ts 3) && is_absent (token_at ts 4))) f in
    by_tells keyword.ForkTo ts x tests.0 p (told keyword.ForkTo ts x (λ q. cc) f e w) (λ l. l) r

-- a line that says a whole part with small numbers has the text of the part's line
pub line_says : (bytes : List ℕ) (x : Part) → line_of bytes ≡ Some x → IsWholePart x × IsSmallLine (part_line x) → HasText bytes x
line_says bytes x e (w, r) = go (tokens_of bytes) refl (proper_tokens (split 32 bytes)) e
  where
    by_form : (k : Keyword) (ts : List Token) (form : Bool) → has_form k ts ≡ form → tokens_of bytes ≡ Name k ∷ ts → AllByRecursion IsProper ts
        → cond form (Some (part_of k ts)) None ≡ Some x → HasText bytes x
    by_form k ts false f is p e = cc
    by_form k ts true f is p e =
        let same : part_of k ts ≡ x = cc in
        let s = said k ts x f p same w r in
        let (text, fits) = line_written bytes k ts s.operands is s.are in
        record { text = text ∙ ap line_text (sym s.line); fits = subst LineFits (sym s.line) fits }

    go : (us : List Token) → tokens_of bytes ≡ us → AllByRecursion IsProper us → part_in us ≡ Some x → HasText bytes x
    go [] is p e = cc
    go (Name k ∷ ts) is p e = by_form k ts (has_form k ts) refl is p.1 e
    go (Register n ∷ ts) is p e = cc
    go (Number n ∷ ts) is p e = cc
    go (Negative n ∷ ts) is p e = cc
    go (Absent ∷ ts) is p e = cc
    go (Other ∷ ts) is p e = cc

-- Lines are told by their text.
use Rattle.std.proofs.Common.{◌≡◌, ◌∙◌, ℕ, ◌<◌, ◌≤◌, Bool, true, false, ◌&&◌, nat_lt, List, [], ◌∷◌, ◌++◌, length, get_or, drop, refl, sym, ap, arith}
use Rattle.std.proofs.Common.{append_assoc}
use Rattle.std.specs.List.{flat_map, AllByRecursion}
use Rattle.std.proofs.lemmas.Bool.{ltb-true}
use Rattle.ppm_listing.specs.declared.token.Token.{Token}
use Rattle.ppm_listing.specs.Tokens.{Line, keyword_text, token_text, operand_text, line_text}
use Rattle.ppm_listing.specs.Listing.{text_of}
use Rattle.ppm_listing.specs.Correct.{Fits, LineFits}
use Rattle.ppm_listing.proofs.KeywordLemmas.{is_word, spelling, keyword_text_injective}
use Rattle.ppm_listing.proofs.TokenLemmas.{not_both, word_of_token, token_text_injective}

-- the first element of equal lists is one, and lists are one by their parts
pub same_head : {b c : ℕ} {bs cs : List ℕ} → b ∷ bs ≡ c ∷ cs → b ≡ c
same_head e = ap (λ (l : List ℕ). get_or l 0 0) e

pub same_tail : {b c : ℕ} {bs cs : List ℕ} → b ∷ bs ≡ c ∷ cs → bs ≡ cs
same_tail e = ap (drop 1) e

pub cons_path : {A : Type 0} {x y : A} {xs ys : List A} → x ≡ y → xs ≡ ys → x ∷ xs ≡ y ∷ ys
cons_path p q = λ i. p i ∷ q i

-- the bytes begin with one that ends a token
abbrev IsCut : List ℕ → Type 0
IsCut [] = ⊥
IsCut (b ∷ bs) = b ≤ 32

-- both tests are passed
both_parts : (a b : Bool) → (a && b) ≡ true → (a ≡ true) × (b ≡ true)
both_parts true b h = (refl, h)
both_parts false b h = absurd (not_both (sym h))

first_of_word : (b : ℕ) (bs : List ℕ) → is_word (b ∷ bs) ≡ true → 32 < b
first_of_word b bs h = ltb-true 32 b (both_parts (nat_lt 32 b) (is_word bs) h).0

rest_of_word : (b : ℕ) (bs : List ℕ) → is_word (b ∷ bs) ≡ true → is_word bs ≡ true
rest_of_word b bs h = (both_parts (nat_lt 32 b) (is_word bs) h).1

-- of two texts that are one, each begins with a word up to a byte that ends it: the words are one, and what follows
cut : (w v rest more : List ℕ) → is_word w ≡ true → is_word v ≡ true → IsCut rest → IsCut more
    → w ++ rest ≡ v ++ more → (w ≡ v) × (rest ≡ more)
cut [] [] rest more p q r s e = (refl, e)
cut [] (c ∷ v) [] more p q r s e = absurd r
cut [] (c ∷ v) (b ∷ rest) more p q r s e = absurd (omega (arith, r, first_of_word c v q, same_head e))
cut (b ∷ w) [] rest [] p q r s e = absurd s
cut (b ∷ w) [] rest (c ∷ more) p q r s e = absurd (omega (arith, s, first_of_word b w p, same_head e))
cut (b ∷ w) (c ∷ v) rest more p q r s e =
    let (same, left) = cut w v rest more (rest_of_word b w p) (rest_of_word c v q) r s (same_tail e) in
    (cons_path (same_head e) same, left)

-- what stands after a token: other tokens, and a line feed with what follows
abbrev behind : List Token → List ℕ → List ℕ
behind ts rest = flat_map operand_text ts ++ 10 ∷ rest

behind_is_cut : (ts : List Token) (rest : List ℕ) → IsCut (behind ts rest)
behind_is_cut [] rest = omega arith
behind_is_cut (t ∷ ts) rest = omega arith

-- tokens are told by their text, and what follows the line too
same_operands : (ts us : List Token) (rest more : List ℕ) → AllByRecursion Fits ts → AllByRecursion Fits us → behind ts rest ≡ behind us more
    → (ts ≡ us) × (rest ≡ more)
same_operands [] [] rest more g h e = (refl, same_tail e)
same_operands [] (u ∷ us) rest more g h e = absurd (omega (arith, same_head e))
same_operands (t ∷ ts) [] rest more g h e = absurd (omega (arith, same_head e))
same_operands (t ∷ ts) (u ∷ us) rest more g h e =
    let regrouped = sym (append_assoc (token_text t) (flat_map operand_text ts) (10 ∷ rest)) ∙ same_tail e
    ∙ append_assoc (token_text u) (flat_map operand_text us) (10 ∷ more) in
    let (texts, left) = cut (token_text t) (token_text u) (behind ts rest) (behind us more) (word_of_token t g.0)
    (word_of_token u h.0) (behind_is_cut ts rest) (behind_is_cut us more) regrouped in
    let (tokens, after) = same_operands ts us rest more g.1 h.1 left in
    (cons_path (token_text_injective t u g.0 h.0 texts) tokens, after)

-- the text of a line with what follows
line_text-append : (l : Line) (rest : List ℕ) → line_text l ++ rest ≡ keyword_text l.keyword ++ behind l.operands rest
line_text-append l rest = simp (append_assoc)

-- no line has no text
no_text : (front rest : List ℕ) → [] ≡ front ++ 10 ∷ rest → ⊥
no_text [] rest e = omega (arith, ap length e)
no_text (b ∷ front) rest e = omega (arith, ap length e)

line_is_not_empty : (l : Line) (rest : List ℕ) → [] ≡ line_text l ++ rest → ⊥
line_is_not_empty l rest e =
    no_text (keyword_text l.keyword ++ flat_map operand_text l.operands) rest
    (e ∙ line_text-append l rest ∙ sym (append_assoc (keyword_text l.keyword) (flat_map operand_text l.operands) (10 ∷ rest)))

-- lines are told by their text
same_line : (l m : Line) (rest more : List ℕ) → LineFits l → LineFits m → line_text l ++ rest ≡ line_text m ++ more
    → (l ≡ m) × (rest ≡ more)
same_line l m rest more g h e =
    let regrouped = sym (line_text-append l rest) ∙ e ∙ line_text-append m more in
    let (texts, left) = cut (keyword_text l.keyword) (keyword_text m.keyword) (behind l.operands rest) (behind m.operands more)
    (spelling l.keyword).word (spelling m.keyword).word (behind_is_cut l.operands rest)
    (behind_is_cut m.operands more) regrouped in
    let (operands, after) = same_operands l.operands m.operands rest more g h left in
    let keywords = keyword_text_injective l.keyword m.keyword texts in
    (λ i. record { keyword = keywords i; operands = operands i }, after)

pub text_of_injective : (ls ms : List Line) → AllByRecursion LineFits ls → AllByRecursion LineFits ms → text_of ls ≡ text_of ms → ls ≡ ms
text_of_injective [] [] g h e = refl
text_of_injective [] (m ∷ ms) g h e = absurd (line_is_not_empty m (text_of ms) e)
text_of_injective (l ∷ ls) [] g h e = absurd (line_is_not_empty l (text_of ls) (sym e))
text_of_injective (l ∷ ls) (m ∷ ms) g h e =
    let (lines, left) = same_line l m (text_of ls) (text_of ms) g.0 h.0 e in
    cons_path lines (text_of_injective ls ms g.1 h.1 left)

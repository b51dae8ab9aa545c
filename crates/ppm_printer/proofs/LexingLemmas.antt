-- The text of tokens is lexed into them.
use Rattle.std.proofs.Common.{◌≡◌, ◌∙◌, ℕ, suc, ◌+◌, ◌≤◌, List, [], ◌∷◌, ◌++◌, length, refl, sym, ap, subst, arith, append_assoc}
use Rattle.std.specs.List.{AllByRecursion}
use Rattle.std.proofs.Math.Seq.{drop-append_seam}
use Rattle.std.proofs.lemmas.List.{length-append}
use Rattle.ppm_words.specs.Limits.{name_limit}
use Rattle.ppm_words.specs.Names.{IsName}
use Rattle.ppm_text.specs.declared.token.Kind.{Kind}
use Rattle.ppm_text.specs.declared.token.Kind.TheVariants as kind
use Rattle.ppm_text.specs.declared.token.Sign.{Sign}
use Rattle.ppm_text.specs.declared.token.Sign.TheVariants as s
use Rattle.ppm_text.specs.declared.token.Token.{Token}
use Rattle.ppm_text.specs.Spelling.{IsInRange}
use Rattle.ppm_text.specs.Lexing.{Skips, line_feed, blank, Lexes, here, skip, token, located, IsTextOf}
use Rattle.ppm_text.specs.Tokens.{HasForm}
use Rattle.ppm_printer.specs.Spelled.{token_text, blank_behind_sign, blank_behind, spaced, text_of}
use Rattle.ppm_printer.proofs.SpellingLemmas.{longest_before_blank, text_spells}

-- how many lines end after a token
abbrev sign_ends : Sign → ℕ
sign_ends s.Semicolon = 1
sign_ends s.OpenBrace = 1
sign_ends s.CloseBrace = 1
sign_ends _ = 0

abbrev pub ends : Kind → ℕ
ends (kind.Sign sign) = sign_ends sign
ends _ = 0

-- the place after a token and its blank
abbrev pub past : Kind → ℕ → ℕ
past k p = p + length (token_text k) + 1

-- the tokens where their text stands from a place and a line on
abbrev pub located_from : ℕ → ℕ → List Kind → List Token
located_from p l [] = []
located_from p l (k ∷ ks) = located k p l ∷ located_from (past k p) (l + ends k) ks

-- the blank after a token is one
sign_skips : (sign : Sign) (bs : List ℕ) → Skips (blank_behind_sign sign ∷ bs) 1 (sign_ends sign)
sign_skips s.Semicolon bs = line_feed refl
sign_skips s.OpenBrace bs = line_feed refl
sign_skips s.CloseBrace bs = line_feed refl
sign_skips s.OpenBracket bs = blank refl
sign_skips s.CloseBracket bs = blank refl
sign_skips s.OpenParen bs = blank refl
sign_skips s.CloseParen bs = blank refl
sign_skips s.Comma bs = blank refl
sign_skips s.Assign bs = blank refl
sign_skips s.Plus bs = blank refl
sign_skips s.Minus bs = blank refl
sign_skips s.Times bs = blank refl
sign_skips s.Divide bs = blank refl
sign_skips s.Remainder bs = blank refl
sign_skips s.Equal bs = blank refl
sign_skips s.NotEqual bs = blank refl
sign_skips s.Less bs = blank refl
sign_skips s.LessEqual bs = blank refl
sign_skips s.Greater bs = blank refl
sign_skips s.GreaterEqual bs = blank refl
sign_skips s.Both bs = blank refl
sign_skips s.Either bs = blank refl

skips : (k : Kind) (bs : List ℕ) → Skips (blank_behind k ∷ bs) 1 (ends k)
skips (kind.Sign sign) bs = sign_skips sign bs
skips (kind.Name bytes) bs = blank refl
skips (kind.Number value) bs = blank refl
skips (kind.Keyword word) bs = blank refl

-- and a blank ends each token
sign_blank : (sign : Sign) → blank_behind_sign sign ≤ 32
sign_blank s.Semicolon = omega arith
sign_blank s.OpenBrace = omega arith
sign_blank s.CloseBrace = omega arith
sign_blank _ = omega arith

is_blank : (k : Kind) → blank_behind k ≤ 32
is_blank (kind.Sign sign) = sign_blank sign
is_blank _ = omega arith

-- a token has the size that the language allows
name_short : (bytes : List ℕ) → IsName bytes → length bytes ≤ name_limit
name_short [] h = absurd h
name_short (b ∷ bs) h = omega (arith, h.2)

in_range : (k : Kind) → HasForm k → IsInRange k
in_range (kind.Name bytes) form = name_short bytes form.0
in_range (kind.Number value) form = form
in_range (kind.Keyword word) form = tt
in_range (kind.Sign sign) form = tt

-- a token in front of others, with its blank
one : (k : Kind) (bs : List ℕ) (p l q m : ℕ) (ts : List Token) → HasForm k
    → Lexes (p + length (token_text k) + 1) (l + ends k) bs ts q m []
    → Lexes p l (token_text k ++ blank_behind k ∷ bs) (located k p l ∷ ts) q m []
one k bs p l q m ts form rest =
    token (longest_before_blank (token_text k) k (blank_behind k) bs (text_spells k form) (is_blank k)) (in_range k form)
    (rw (drop-append_seam (token_text k) (blank_behind k ∷ bs)) (skip (skips k bs) rest))

-- the text of tokens is lexed into them
pub lexed_from : (ks : List Kind) (p l q : ℕ) → AllByRecursion HasForm ks → q ≡ p + length (text_of ks)
    → (m : ℕ) × Lexes p l (text_of ks) (located_from p l ks) q m []
lexed_from [] p l q forms is = (l, subst (λ q. Lexes p l [] [] q l []) (omega (arith, is)) here)
lexed_from (k ∷ ks) p l q forms is =
    let split : spaced k ++ text_of ks ≡ token_text k ++ blank_behind k ∷ text_of ks = append_assoc (token_text k) (blank_behind k ∷ []) (text_of ks) in
    let long : length (spaced k ++ text_of ks) ≡ length (token_text k) + suc (length (text_of ks)) =
    ap length split ∙ length-append (token_text k) (blank_behind k ∷ text_of ks) in
    let (m, rest) = lexed_from ks (p + length (token_text k) + 1) (l + ends k) q forms.1 (omega (arith, is, long)) in
    (m, subst (λ bs. Lexes p l bs (located_from p l (k ∷ ks)) q m []) (sym split) (one k (text_of ks) p l q m _ forms.0 rest))

-- a whole text is lexed into its tokens
pub lexed : (ks : List Kind) → AllByRecursion HasForm ks → IsTextOf (text_of ks) (located_from 0 1 ks)
lexed ks forms = lexed_from ks 0 1 (length (text_of ks)) forms (omega arith)

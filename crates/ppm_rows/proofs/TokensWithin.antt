-- Tokens that stand in a text: their lines, names and numbers are those of trees within the limits.
use Rattle.std.proofs.Common.{◌≡◌, ◌≢◌, ℕ, ◌≤◌, ◌<◌, Bool, true, false, List, [], ◌∷◌, refl, arith}
use Rattle.std.specs.Prelude.{nat_lt, cond, map, Option, Some, None, if◌then◌else◌}
use Rattle.std.specs.List.{All, AllByRecursion}
use Rattle.std.specs.Str.{bytes_eq}
use Rattle.std.specs.Bool.{Decides}
use Rattle.std.proofs.lemmas.List.Elements.{All-from_recursion}
use Rattle.std.proofs.lemmas.Slice.Eq.{bytes_eq-Decides}
use Rattle.ppm_words.specs.Limits.{value_bound}
use Rattle.ppm_grammar.specs.Limits.{Tally, passed}
use Rattle.ppm_grammar.proofs.DerivationLemmas.{Allowed}
use Rattle.ppm_text.specs.declared.token.Kind.{Kind}
use Rattle.ppm_text.specs.declared.token.Kind.TheVariants as kind
use Rattle.ppm_text.specs.declared.token.Sign.TheVariants as sign
use Rattle.ppm_text.specs.declared.token.Token.{Token}
use Rattle.ppm_text.specs.Limits.{text_limit}
use Rattle.ppm_text.specs.Spelling.{spelled, keyword_of, keywords as spellings}
use Rattle.ppm_text.specs.Tokens.{HasForm, StandsIn}
use Rattle.ppm_tree.specs.Limits.{array_limit, word_limit, procedure_limit, parameter_limit, node_limit, keywords, IsLine, IsNamed}
use Rattle.ppm_rows.specs.Values.{name_of, number_of, named}
use Rattle.ppm_rows.specs.Kinds.{Name, Number, Mark, terminal}
use Rattle.ppm_rows.specs.Phrases as p
use Rattle.ppm_rows.specs.Follow.{may_follow}
use Rattle.ppm_rows.specs.Language.{language}
use Rattle.ppm_rows.specs.Limits.{limits, is_index, has_index}

-- bytes that none of the rows spells are none of their spellings
unspelled : {K : Type 0} (bytes : List ℕ) (rows : List (List ℕ × K)) → spelled rows bytes ≡ None → AllByRecursion (λ k. k ≢ bytes) (map (λ r. r.0) rows)
unspelled bytes [] h = tt
unspelled {K} bytes (row ∷ rows) h = go (bytes_eq row.0 bytes) (bytes_eq-Decides row.0 bytes) h (λ h'. unspelled bytes rows h')
  where
    go : (same : Bool) → Decides same (row.0 ≡ bytes) → cond same (Some row.1) (spelled rows bytes) ≡ None →
        (spelled rows bytes ≡ None → AllByRecursion (λ k. k ≢ bytes) (map (λ r. r.0) rows)) →
        (row.0 ≢ bytes) × AllByRecursion (λ k. k ≢ bytes) (map (λ r. r.0) rows)
    go true d h next = cc
    go false d h next = (λ same. let no = d.1 same in cc, next h)

-- a name that is spelled as no keyword is none
no_keyword : (bytes : List ℕ) → keyword_of bytes ≡ None → All (λ k. k ≢ bytes) keywords
unfolding keyword_of
no_keyword bytes h = All-from_recursion (λ k. k ≢ bytes) keywords (unspelled bytes spellings h)

-- a token that is a name has one
kind_named : (k : Kind) (line : ℕ) → terminal k ≡ Name → HasForm k → IsLine line → IsNamed (record { name = name_of k; line = line })
kind_named (kind.Name bytes) line is form h = record { form = form.0; no_keyword = no_keyword bytes form.1; line = h }
kind_named (kind.Number value) line is form h = cc
kind_named (kind.Keyword word) line is form h = cc
kind_named (kind.Sign mark) line is form h = cc

-- one that is a number has a value
kind_number : (k : Kind) → terminal k ≡ Number → HasForm k → number_of k < value_bound
kind_number (kind.Name bytes) is form = cc
kind_number (kind.Number value) is form = form
kind_number (kind.Keyword word) is form = cc
kind_number (kind.Sign mark) is form = cc

-- an opening bracket begins an index
kind_index : (k : Kind) → terminal k ≡ Mark sign.OpenBracket → is_index k ≡ true
kind_index (kind.Name bytes) is = cc
kind_index (kind.Number value) is = cc
kind_index (kind.Keyword word) is = cc
kind_index (kind.Sign sign.OpenBracket) is = refl
kind_index (kind.Sign mark) is = cc

-- what follows an operand does not
kind_follows : (k : Kind) → may_follow p.Index (terminal k) ≡ true → is_index k ≡ false
kind_follows (kind.Sign sign.OpenBracket) h = cc
kind_follows k h = cc

pub no_index : (ts : List Token) → Allowed language (may_follow p.Index) ts → has_index ts ≡ false
no_index [] h = refl
no_index (t ∷ ts) h = kind_follows t.kind h

pub an_index : (t : Token) (ts : List Token) → terminal t.kind ≡ Mark sign.OpenBracket → has_index (t ∷ ts) ≡ true
an_index t ts is = kind_index t.kind is

module _ {size : ℕ} (short : size ≤ text_limit) where
  -- its line is one
  pub line_of : {t : Token} → StandsIn size t → IsLine t.line
  line_of s = record { first = s.first_line; last = omega (arith, s.line, s.place, short) }

  -- its name is one
  pub name_fine : {t : Token} → terminal t.kind ≡ Name → StandsIn size t → IsNamed (named t)
  name_fine {t = t} is s = kind_named t.kind t.line is s.form (line_of s)

-- its number is a literal
pub number_fine : {size : ℕ} {t : Token} → terminal t.kind ≡ Number → StandsIn size t → number_of t.kind < value_bound
number_fine {t = t} is s = kind_number t.kind is s.form

-- no limit is passed
abbrev pub Free : Tally → Type 0
Free c = passed limits.most c ≡ None

-- where the first limit is kept, and all are, so are the others
kept_first : (b : Bool) (which : ℕ) (o : Option ℕ) → (if b then Some which else o) ≡ None → (b ≡ false) × (o ≡ None)
kept_first true which o h = cc
kept_first false which o h = (refl, h)

kept : (most : ℕ) (n which : ℕ) (o : Option ℕ) → (if nat_lt most n then Some which else o) ≡ None → (n ≤ most) × (o ≡ None)
kept most n which o h = let k = kept_first (nat_lt most n) which o h in let under = k.0 in (grind (arith, under), k.1)

-- each number of a tally keeps its limit
pub record KeepsAll (c : Tally) : Type 0 where
  pub arrays : c 1 ≤ array_limit
  pub words : c 2 ≤ word_limit
  pub procedures : c 3 ≤ procedure_limit
  pub elements : c 4 ≤ parameter_limit
  pub nodes : c 5 ≤ node_limit

pub free_keeps : (c : Tally) → Free c → KeepsAll c
free_keeps c h =
    let a = kept array_limit (c 1) 1 _ h in
    let b = kept word_limit (c 2) 2 _ a.1 in
    let d = kept procedure_limit (c 3) 3 _ b.1 in
    let e = kept parameter_limit (c 4) 4 _ d.1 in
    let f = kept node_limit (c 5) 5 _ e.1 in
    record { arrays = a.0; words = b.0; procedures = d.0; elements = e.0; nodes = f.0 }

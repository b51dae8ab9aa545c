-- What tokens derive, whatever their marks are, and parts that stand in front of tokens that follow.
use Rattle.std.proofs.Common.{◌≡◌, ℕ, List, [], ◌∷◌, ◌++◌, subst, map}
use Rattle.ppm_grammar.specs.Rows.{In, first, later, Take, Part}
use Rattle.ppm_grammar.specs.Derivation.{Due, Within, due, Mark, mark, counting, inside, Derives, nothing, token, part}
use Rattle.ppm_text.specs.declared.token.Kind.{Kind}
use Rattle.ppm_text.specs.declared.token.Token.{Token}
use Rattle.ppm_rows.specs.Kinds.{Terminal, terminal}
use Rattle.ppm_rows.specs.Phrases.{Phrase}
use Rattle.ppm_rows.specs.Values.{Value, Lexed}
use Rattle.ppm_rows.specs.Language.{Counted, Form, rows, language}
use Rattle.ppm_printer.proofs.LexingLemmas.{located_from}

-- the tokens begin with the items, which have these values, and the rest follows
pub record Reads (xs : List (Due Terminal Phrase)) (ts : List Token) (vs : List Value) (rest : List Token) : Type 0 where
  pub marks : List (Mark Counted)
  pub derived : Derives language xs ts vs marks rest

-- nothing, a token, and a part by one of its rows
pub done : {ts : List Token} → Reads [] ts [] ts
done = record { marks = []; derived = nothing }

pub take : {d : ℕ} {x : Terminal} {t : Token} {xs : List (Due Terminal Phrase)} {ts rest : List Token} {vs : List Value} → terminal t.kind ≡ x →
    Reads xs ts vs rest → Reads (Within d (Take x) ∷ xs) (t ∷ ts) (Lexed t ∷ vs) rest
take {d = d} is r = record { marks = mark d [] ∷ r.marks; derived = token is r.derived }

pub row : (d : ℕ) (n : Phrase) {f : Form} {xs : List (Due Terminal Phrase)} {ts mid rest : List Token} {us vs : List Value} {v : Value} → In f (rows n) →
    Reads (due (inside f d) f.items) ts us mid → Reads xs mid vs rest → f.make us ≡ v → Reads (Within d (Part n) ∷ xs) ts (v ∷ vs) rest
row d n {f} {xs} {ts} {mid} {rest} {us} {vs} {v} i inner next is = record {
  marks = counting f.counts inner.marks ++ next.marks;
  derived = subst (λ w. Derives language (Within d (Part n) ∷ xs) ts (w ∷ vs) (counting f.counts inner.marks ++ next.marks) rest) is
      (part i inner.derived next.derived);
}

-- a part stands in front, with a value made of what has the property; what follows begins at some place and line
pub record Stands {A : Type 0} (value : A → Value) (Same : A → Type 0) (d : ℕ) (n : Phrase) (ts : List Token) (more : List Kind) : Type 0 where
  pub again : A
  pub same : Same again
  pub place : ℕ
  pub line : ℕ
  pub reads : (xs : List (Due Terminal Phrase)) (vs : List Value) (rest : List Token) → Reads xs (located_from place line more) vs rest →
      Reads (Within d (Part n) ∷ xs) ts (value again ∷ vs) rest

-- tokens that stand for a value, grouped otherwise
pub regroup : {A : Type 0} (value : A → Value) (Same : A → Type 0) (d : ℕ) (n : Phrase) (p l : ℕ) (more : List Kind) {ks js : List Kind} → ks ≡ js →
    Stands value Same d n (located_from p l js) more → Stands value Same d n (located_from p l ks) more
regroup value Same d n p l more e h = rw e h

-- the row of a thing among the rows of things
pub in_map : {A B : Type 0} (f : A → B) {x : A} {xs : List A} → In x xs → In (f x) (map f xs)
in_map f first = first
in_map f (later i) = later (in_map f i)

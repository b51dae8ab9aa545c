-- The tokens of both procedures derive them.
use Rattle.std.proofs.Common.{◌≡◌, ℕ, suc, ◌+◌, List, [], ◌∷◌, ◌++◌, refl}
use Rattle.std.specs.Prelude.{pos, codes}
use Rattle.ppm_grammar.specs.Rows.{In, first, later, Take, Part}
use Rattle.ppm_grammar.specs.Derivation.{Due, Within, due, mark, counting, inside, nothing, token, part}
use Rattle.ppm_text.specs.declared.token.Keyword.{Keyword}
use Rattle.ppm_text.specs.declared.token.Keyword.TheVariants as k
use Rattle.ppm_text.specs.declared.token.Sign.{Sign}
use Rattle.ppm_text.specs.declared.token.Sign.TheVariants as s
use Rattle.ppm_text.specs.declared.token.Kind.TheVariants as kind
use Rattle.ppm_text.specs.declared.token.Token.{Token}
use Rattle.ppm_text.specs.Lexing.{located}
use Rattle.ppm_tree.specs.declared.mode.Mode.TheVariants as mode
use Rattle.ppm_tree.specs.declared.operator.Operator.TheVariants as o
use Rattle.ppm_tree.specs.Tree.{Expression, Side}
use Rattle.ppm_tree.specs.Tree as tree
use Rattle.ppm_rows.specs.declared.level.Level.{Level}
use Rattle.ppm_rows.specs.declared.level.Level.TheVariants as level
use Rattle.ppm_rows.specs.Kinds.{Terminal, terminal}
use Rattle.ppm_rows.specs.Phrases.{Phrase, operand}
use Rattle.ppm_rows.specs.Phrases as g
use Rattle.ppm_rows.specs.Values.{Value, Lexed, Expr}
use Rattle.ppm_rows.specs.Values as v
use Rattle.ppm_rows.specs.Language.{Form, rows}
use Rattle.ppm_printer.proofs.Reading.{Reads}
use Rattle.ppm_example.specs.Example.{named, sum_of, both_halves, sum_body, procedures}
use Rattle.ppm_example.specs.Example as example
use Rattle.ppm_example.proofs.LexingLemmas.{Spot, spot, placed}

-- a keyword, a sign, a name and a number after a place
abbrev word : Keyword → ℕ → ℕ → Spot
word which n l = spot (kind.Keyword which) n l

abbrev sign : Sign → ℕ → ℕ → Spot
sign which n l = spot (kind.Sign which) n l

abbrev name : List ℕ → ℕ → ℕ → Spot
name bytes n l = spot (kind.Name bytes) n l

abbrev digit : ℕ → ℕ → ℕ → Spot
digit value n l = spot (kind.Number value) n l

-- `fork sum(l) and sum(r);`
abbrev pub fork_spots : List Spot
fork_spots =
    word k.Fork 68 3 ∷ name (codes "sum") 73 3 ∷ sign s.OpenParen 76 3 ∷ name (codes "l") 77 3 ∷ sign s.CloseParen 78 3 ∷ word k.And 80 3
    ∷ name (codes "sum") 84 3 ∷ sign s.OpenParen 87 3 ∷ name (codes "r") 88 3 ∷ sign s.CloseParen 89 3 ∷ sign s.Semicolon 90 3 ∷ []

-- `l[0] = l[0] + r[0];`
abbrev pub put_spots : List Spot
put_spots =
    name (codes "l") 92 3 ∷ sign s.OpenBracket 93 3 ∷ digit 0 94 3 ∷ sign s.CloseBracket 95 3 ∷ sign s.Assign 97 3
    ∷ name (codes "l") 99 3 ∷ sign s.OpenBracket 100 3 ∷ digit 0 101 3 ∷ sign s.CloseBracket 102 3 ∷ sign s.Plus 104 3
    ∷ name (codes "r") 106 3 ∷ sign s.OpenBracket 107 3 ∷ digit 0 108 3 ∷ sign s.CloseBracket 109 3 ∷ sign s.Semicolon 110 3 ∷ []

-- `split a at len a / 2 into l, r`, and the opening of its block
abbrev pub split_spots : List Spot
split_spots =
    word k.Split 35 3 ∷ name (codes "a") 41 3 ∷ word k.At 43 3 ∷ word k.Len 46 3 ∷ name (codes "a") 50 3 ∷ sign s.Divide 52 3
    ∷ digit 2 54 3 ∷ word k.Into 56 3 ∷ name (codes "l") 61 3 ∷ sign s.Comma 62 3 ∷ name (codes "r") 64 3 ∷ sign s.OpenBrace 66 3 ∷ []

-- `if len a > 1`, and the opening of its block
abbrev pub if_spots : List Spot
if_spots =
    word k.If 20 3 ∷ word k.Len 23 3 ∷ name (codes "a") 27 3 ∷ sign s.Greater 29 3 ∷ digit 1 31 3 ∷ sign s.OpenBrace 33 3 ∷ []

-- `proc sum(mut a)`, and the opening of its body
abbrev pub sum_spots : List Spot
sum_spots =
    word k.Proc 2 3 ∷ name (codes "sum") 7 3 ∷ sign s.OpenParen 10 3 ∷ word k.Mut 11 3 ∷ name (codes "a") 15 3 ∷ sign s.CloseParen 16 3
    ∷ sign s.OpenBrace 18 3 ∷ []

-- `proc main(mut a) { call sum(a); }`
abbrev pub main_spots : List Spot
main_spots =
    word k.Proc 118 4 ∷ name (codes "main") 123 4 ∷ sign s.OpenParen 127 4 ∷ word k.Mut 128 4 ∷ name (codes "a") 132 4
    ∷ sign s.CloseParen 133 4 ∷ sign s.OpenBrace 135 4 ∷ word k.Call 137 4 ∷ name (codes "sum") 142 4 ∷ sign s.OpenParen 145 4
    ∷ name (codes "a") 146 4 ∷ sign s.CloseParen 147 4 ∷ sign s.Semicolon 148 4 ∷ sign s.CloseBrace 150 4 ∷ []

-- the ends of the blocks of `sum` and of its body
abbrev pub closing_spots : List Spot
closing_spots =
    sign s.CloseBrace 112 3 ∷ sign s.CloseBrace 114 3 ∷ sign s.CloseBrace 116 3 ∷ []

-- the tokens from the end of the input on
abbrev pub procedure_spots : List Spot
procedure_spots =
    sign s.Semicolon 0 2 ∷ sum_spots ++ if_spots ++ split_spots ++ fork_spots ++ put_spots ++ closing_spots ++ main_spots

-- nothing, a token, and a part by one of its rows; the marks compute
abbrev done : {ts : List Token} → Reads [] ts [] ts
done = record { marks = []; derived = nothing }

abbrev take : {d : ℕ} {x : Terminal} {t : Token} {xs : List (Due Terminal Phrase)} {ts rest : List Token} {vs : List Value} → terminal t.kind ≡ x
    → Reads xs ts vs rest → Reads (Within d (Take x) ∷ xs) (t ∷ ts) (Lexed t ∷ vs) rest
take {d = d} is next = record { marks = mark d [] ∷ next.marks; derived = token is next.derived }

abbrev row : (d : ℕ) (n : Phrase) {f : Form} {xs : List (Due Terminal Phrase)} {ts mid rest : List Token} {us vs : List Value} → In f (rows n)
    → Reads (due (inside f d) f.items) ts us mid → Reads xs mid vs rest → Reads (Within d (Part n) ∷ xs) ts (f.make us ∷ vs) rest
row d n {f} i inner next = record { marks = counting f.counts inner.marks ++ next.marks; derived = part i inner.derived next.derived }

-- the part stands in front of the tokens, with this value, and the others follow
abbrev pub Front : ℕ → Phrase → List Token → Value → List Token → Type 0
Front d n ts v mid =
    (xs : List (Due Terminal Phrase)) (vs : List Value) (rest : List Token) → Reads xs mid vs rest → Reads (Within d (Part n) ∷ xs) ts (v ∷ vs) rest

-- operands: a number, the length of a region, a name, and the first value of a region
abbrev literal : (d n p l : ℕ) (ts : List Token) → Front d g.Operand (located (kind.Number n) p l ∷ ts) (Expr l (tree.Number (pos n))) ts
literal d n p l ts xs vs rest next = row d g.Operand (later first) (take refl done) next

abbrev len : (d p q l : ℕ) (x : List ℕ) (ts : List Token)
    → Front d g.Operand (located (kind.Keyword k.Len) p l ∷ located (kind.Name x) q l ∷ ts) (Expr l (tree.Len (named x l))) ts
len d p q l x ts xs vs rest next = row d g.Operand (later (later (later first))) (take refl (take refl done)) next

abbrev region : (d p l : ℕ) (x : List ℕ) (ts : List Token) → Front d g.Operand (located (kind.Name x) p l ∷ ts) (Expr l (tree.Name (named x l))) ts
region d p l x ts xs vs rest next = row d g.Operand (later (later first)) (take refl (row d g.Index first done done)) next

-- an operand of a level from which nothing goes on
abbrev lift : (lv : Level) (d : ℕ) {l : ℕ} {e : Expression} {ts mid : List Token} → Front d (operand lv) ts (Expr l e) mid
    → Front d (g.Operation lv) ts (Expr l e) mid
lift lv d h xs vs rest next = row d (g.Operation lv) first (h _ _ _ (row d (g.FromOperand lv) first done done)) next

-- an operation is a whole expression
abbrev of_comparison : (d : ℕ) {l : ℕ} {e : Expression} {ts mid : List Token} → Front d (g.Operation level.Comparison) ts (Expr l e) mid
    → Front d g.Expression ts (Expr l e) mid
of_comparison d h = lift level.Either d (lift level.Both d h)

abbrev of_sum : (d : ℕ) {l : ℕ} {e : Expression} {ts mid : List Token} → Front d (g.Operation level.Sum) ts (Expr l e) mid
    → Front d g.Expression ts (Expr l e) mid
of_sum d h = of_comparison d (lift level.Comparison d h)

abbrev of_product : (d : ℕ) {l : ℕ} {e : Expression} {ts mid : List Token} → Front d (g.Operation level.Product) ts (Expr l e) mid
    → Front d g.Expression ts (Expr l e) mid
of_product d h = of_sum d (lift level.Sum d h)

abbrev of_operand : (d : ℕ) {l : ℕ} {e : Expression} {ts mid : List Token} → Front d g.Operand ts (Expr l e) mid
    → Front d g.Expression ts (Expr l e) mid
of_operand d h = of_product d (lift level.Product d h)

-- the first value of a region
abbrev first_value : (d p q r z l : ℕ) (x : List ℕ) (ts : List Token)
    → Front d g.Operand
    (located (kind.Name x) p l ∷ located (kind.Sign s.OpenBracket) q l ∷ located (kind.Number 0) r l ∷ located (kind.Sign s.CloseBracket) z l ∷ ts)
    (Expr l (tree.Element (named x l) (tree.Number (pos 0)))) ts
first_value d p q r z l x ts xs vs rest next =
    row d g.Operand (later (later first))
    (take refl (row d g.Index (later first) (take refl (of_operand (suc d) (literal (suc d) 0 r l _) _ _ _ (take refl done))) done)) next

-- a comparison, a quotient and a sum
abbrev compared : (d p l m j : ℕ) {e f : Expression} {ts us mid : List Token}
    → Front d (operand level.Comparison) ts (Expr l e) (located (kind.Sign s.Greater) p m ∷ us)
    → Front d (operand level.Comparison) us (Expr j f) mid → Front d (g.Operation level.Comparison) ts (Expr l (tree.Binary o.Gt m e f)) mid
compared d p l m j a b xs vs rest next =
    row d (g.Operation level.Comparison) first
    (a _ _ _ (row d (g.FromOperand level.Comparison) (later (later (later (later (later first))))) (take refl (b _ _ _ done)) done)) next

abbrev divided : (d p l m j : ℕ) {e f : Expression} {ts us mid : List Token}
    → Front d (operand level.Product) ts (Expr l e) (located (kind.Sign s.Divide) p m ∷ us)
    → Front d (operand level.Product) us (Expr j f) mid → Front d (g.Operation level.Product) ts (Expr l (tree.Binary o.Div m e f)) mid
divided d p l m j a b xs vs rest next =
    row d (g.Operation level.Product) first
    (a _ _ _ (row d (g.FromOperand level.Product) (later (later first))
    (take refl (b _ _ _ (row d (g.FromOperand level.Product) first done done))) done)) next

abbrev added : (d p l m j : ℕ) {e f : Expression} {ts us mid : List Token}
    → Front d (operand level.Sum) ts (Expr l e) (located (kind.Sign s.Plus) p m ∷ us)
    → Front d (operand level.Sum) us (Expr j f) mid → Front d (g.Operation level.Sum) ts (Expr l (tree.Binary o.Add m e f)) mid
added d p l m j a b xs vs rest next =
    row d (g.Operation level.Sum) first
    (a _ _ _ (row d (g.FromOperand level.Sum) (later first)
    (take refl (b _ _ _ (row d (g.FromOperand level.Sum) first done done))) done)) next

-- `(x)`, and `sum(x)` after `call` and in a fork
abbrev lent : (d p q r l : ℕ) (x : List ℕ) (ts : List Token)
    → Front d g.ArgumentList (located (kind.Sign s.OpenParen) p l ∷ located (kind.Name x) q l ∷ located (kind.Sign s.CloseParen) r l ∷ ts)
    (v.Arguments (record { line = l; value = tree.Name (named x l) } ∷ [])) ts
lent d p q r l x ts xs vs rest next =
    row d g.ArgumentList first
    (take refl
    (row (suc d) g.SomeArguments (later first)
    (row (suc d) g.Argument first (of_operand (suc d) (region (suc d) q l x _) _ _ _ done)
    (row (suc d) g.MoreArguments first done done))
    (take refl done))) next

abbrev called : (d f p q r l : ℕ) (x : List ℕ) (ts : List Token)
    → Front d g.Call
    (located (kind.Name (codes "sum")) f l ∷ located (kind.Sign s.OpenParen) p l ∷ located (kind.Name x) q l
    ∷ located (kind.Sign s.CloseParen) r l ∷ ts)
    (v.OneSide (sum_of (named x l))) ts
called d f p q r l x ts xs vs rest next = row d g.Call first (take refl (lent d p q r l x ts _ _ _ done)) next

abbrev side : (d f p q r l : ℕ) (x : List ℕ) (ts : List Token)
    → Front d g.Side
    (located (kind.Name (codes "sum")) f l ∷ located (kind.Sign s.OpenParen) p l ∷ located (kind.Name x) q l
    ∷ located (kind.Sign s.CloseParen) r l ∷ ts)
    (v.OneSide (sum_of (named x l))) ts
side d f p q r l x ts xs vs rest next =
    row d g.Side first (take refl (row d g.AfterTarget (later first) (lent d p q r l x ts _ _ _ done) done)) next

module _ (p : ℕ) where
  -- the statements of `sum`, from the innermost on
  abbrev fork_reads : (d : ℕ) (ts : List Token)
      → Front d g.Statement (placed p fork_spots ++ ts) (v.OneStatement (tree.Fork (sum_of example.l) (sum_of example.r))) ts
  fork_reads d ts xs vs rest next =
      row d g.Statement (later (later (later (later (later first)))))
      (take refl (side d (p + 73) (p + 76) (p + 77) (p + 78) 3 (codes "l") _ _ _ _
      (take refl (side d (p + 84) (p + 87) (p + 88) (p + 89) 3 (codes "r") _ _ _ _ (take refl done))))) next

  abbrev put_reads : (d : ℕ) (ts : List Token)
      → Front d g.Statement (placed p put_spots ++ ts)
      (v.OneStatement (tree.Put example.l (tree.Number (pos 0)) (tree.Binary o.Add 3 (example.first_of example.l) (example.first_of example.r)))) ts
  put_reads d ts xs vs rest next =
      row d g.Statement (later first)
      (take refl (row d g.AfterName (later first)
      (row d g.Element first (take refl (of_operand (suc d) (literal (suc d) 0 (p + 94) 3 _) _ _ _ (take refl done)))
      (take refl (of_sum d
      (added d (p + 104) 3 3 3
      (lift level.Product d (first_value d (p + 99) (p + 100) (p + 101) (p + 102) 3 (codes "l") _))
      (lift level.Product d (first_value d (p + 106) (p + 107) (p + 108) (p + 109) 3 (codes "r") _)))
      _ _ _ (take refl done))))
      done)) next

  abbrev halves_read : (d : ℕ) (ts : List Token)
      → Front d g.Statements (placed p fork_spots ++ (placed p put_spots ++ located (kind.Sign s.CloseBrace) (p + 112) 3 ∷ ts)) (v.Statements both_halves)
      (located (kind.Sign s.CloseBrace) (p + 112) 3 ∷ ts)
  halves_read d ts xs vs rest next =
      row d g.Statements (later first)
      (fork_reads d _ _ _ _
      (row d g.Statements (later first) (put_reads d _ _ _ _ (row d g.Statements first done done)) done)) next

  abbrev split_reads : (d : ℕ) (ts : List Token)
      → Front d g.Statement (placed p split_spots ++ (placed p fork_spots ++ (placed p put_spots ++ located (kind.Sign s.CloseBrace) (p + 112) 3 ∷ ts)))
      (v.OneStatement (tree.Split 3 (example.a 3) (tree.Binary o.Div 3 (tree.Len (example.a 3)) (tree.Number (pos 2))) example.l example.r both_halves)) ts
  split_reads d ts xs vs rest next =
      row d g.Statement (later (later (later (later (later (later first))))))
      (take refl (take refl (take refl (of_product d
      (divided d (p + 52) 3 3 3 (len d (p + 46) (p + 50) 3 (codes "a") _) (literal d 2 (p + 54) 3 _)) _ _ _
      (take refl (take refl (take refl (take refl
      (row d g.Block first (take refl (halves_read (suc d) ts _ _ _ (take refl done))) done))))))))) next

  -- the body of `sum`
  abbrev body_reads : (d : ℕ) (ts : List Token)
      → Front d g.Statements
      (placed p if_spots ++ (placed p split_spots ++ (placed p fork_spots ++ (placed p put_spots ++ (placed p closing_spots ++ ts)))))
      (v.Statements sum_body) (located (kind.Sign s.CloseBrace) (p + 116) 3 ∷ ts)
  body_reads d ts xs vs rest next =
      row d g.Statements (later first)
      (row d g.Statement (later (later first))
      (take refl (of_comparison d
      (compared d (p + 29) 3 3 3 (lift level.Sum d (lift level.Product d (len d (p + 23) (p + 27) 3 (codes "a") _)))
      (lift level.Sum d (lift level.Product d (literal d 1 (p + 31) 3 _)))) _ _ _
      (row d g.Block first
      (take refl
      (row (suc d) g.Statements (later first) (split_reads (suc d) _ _ _ _ (row (suc d) g.Statements first done done)) (take refl done)))
      (row d g.Else first done done))))
      (row d g.Statements first done done)) next

  -- `(mut a)`
  abbrev parameter_reads : (d q r z w l : ℕ) (ts : List Token)
      → Front d g.ParameterList
      (located (kind.Sign s.OpenParen) q l ∷ located (kind.Keyword k.Mut) r l ∷ located (kind.Name (codes "a")) z l
      ∷ located (kind.Sign s.CloseParen) w l ∷ ts)
      (v.Parameters (record { mode = mode.Mut; name = example.a l } ∷ [])) ts
  parameter_reads d q r z w l ts xs vs rest next =
      row d g.ParameterList first
      (take refl
      (row (suc d) g.SomeParameters (later first)
      (row (suc d) g.Parameter first (row (suc d) g.Mode first (take refl done) (take refl done))
      (row (suc d) g.MoreParameters first done done))
      (take refl done))) next

  -- both procedures, after the end of the input
  abbrev pub procedures_read : Reads (Within 0 (Part g.Source) ∷ [])
      (placed p sum_spots
      ++ (placed p if_spots
      ++ (placed p split_spots ++ (placed p fork_spots ++ (placed p put_spots ++ (placed p closing_spots ++ placed p main_spots))))))
      (v.Program (record { arrays = []; procedures = procedures; inputs = [] }) ∷ []) []
  procedures_read =
      row 0 g.Source (later first)
      (row 0 g.Declaration (later first)
      (take refl (take refl (parameter_reads 0 (p + 10) (p + 11) (p + 15) (p + 16) 3 _ _ _ _
      (row 0 g.Body first (take refl (body_reads 1 _ _ _ _ (row 1 g.Give first done (take refl done)))) done))))
      (row 0 g.Source (later first)
      (row 0 g.Declaration (later first)
      (take refl (take refl (parameter_reads 0 (p + 127) (p + 128) (p + 132) (p + 133) 4 _ _ _ _
      (row 0 g.Body first
      (take refl
      (row 1 g.Statements (later first)
      (row 1 g.Statement (later (later (later (later first))))
      (take refl (called 1 (p + 142) (p + 145) (p + 146) (p + 147) 4 (codes "a") _ _ _ _ (take refl done)))
      (row 1 g.Statements first done done))
      (row 1 g.Give first done (take refl done)))) done))))
      (row 0 g.Source first done done)) done)) done

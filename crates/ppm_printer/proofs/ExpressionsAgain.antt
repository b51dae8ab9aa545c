-- The tokens of an expression derive it, lines apart.
use Rattle.std.proofs.Common.{◌≡◌, ◌∙◌, ℕ, suc, ◌+◌, List, [], ◌∷◌, ◌++◌, refl, ap, append_assoc}
use Rattle.std.specs.Prelude.{pos, negsuc}
use Rattle.ppm_grammar.specs.Rows.{In, first, later}
use Rattle.ppm_grammar.specs.Derivation.{due}
use Rattle.ppm_text.specs.declared.token.Sign.TheVariants as s
use Rattle.ppm_text.specs.declared.token.Kind.{Kind}
use Rattle.ppm_text.specs.declared.token.Token.{Token}
use Rattle.ppm_tree.specs.declared.named.Named.{Named}
use Rattle.ppm_tree.specs.declared.operator.Operator.{Operator}
use Rattle.ppm_tree.specs.declared.operator.Operator.TheVariants as o
use Rattle.ppm_tree.specs.Tree.{Expression, Argument}
use Rattle.ppm_tree.specs.Tree as tree
use Rattle.ppm_rows.specs.declared.level.Level.{Level}
use Rattle.ppm_rows.specs.declared.level.Level.TheVariants as level
use Rattle.ppm_rows.specs.Phrases.{Phrase, operand}
use Rattle.ppm_rows.specs.Phrases as g
use Rattle.ppm_rows.specs.Values.{Value, Expr, item, from_operand_in}
use Rattle.ppm_rows.specs.Values as v
use Rattle.ppm_rows.specs.Operations.{operation, operations}
use Rattle.ppm_rows.specs.Language.{goes_on, operation_form}
use Rattle.ppm_printer.specs.Canonical.{name, sign, operator_sign, expression_tokens}
use Rattle.ppm_tree.specs.Lines.{bare_name, bare_expression}
use Rattle.ppm_printer.proofs.LexingLemmas.{past, ends, located_from}
use Rattle.ppm_printer.proofs.Fine.{FineExpression}
use Rattle.ppm_printer.proofs.Reading.{Reads, done, take, row, Stands, regroup, in_map}

-- a name in a line
abbrev pub in_line : Named → ℕ → Named
in_line x l = record { name = x.name; line = l }

-- an expression in front, of which the line of its first token is kept
abbrev pub expr_value : Argument → Value
expr_value a = Expr a.line a.value

abbrev pub SameExpression : Expression → Argument → Type 0
SameExpression e a = bare_expression a.value ≡ bare_expression e

abbrev pub argument : ℕ → Expression → Argument
argument l e = record { line = l; value = e }

abbrev pub HasExpression : ℕ → Phrase → Expression → List Token → List Kind → Type 0
HasExpression d n e ts more = Stands expr_value (SameExpression e) d n ts more

-- an operand of a level from which nothing goes on
lift : (lv : Level) (d : ℕ) (e : Expression) (ts : List Token) (more : List Kind) → HasExpression d (operand lv) e ts more →
    HasExpression d (g.Operation lv) e ts more
lift lv d e ts more h = record {
  again = h.again;
  same = h.same;
  place = h.place;
  line = h.line;
  reads = λ xs vs rest next. row d (g.Operation lv) first (h.reads _ _ _ (row d (g.FromOperand lv) first done done refl)) next refl;
}

module _ (d : ℕ) (e : Expression) (ts : List Token) (more : List Kind) where
  -- an operand without an operator is an operand of each level
  of_sum : HasExpression d g.Operand e ts more → HasExpression d (operand level.Sum) e ts more
  of_sum h = lift level.Product d e ts more h

  of_comparison : HasExpression d g.Operand e ts more → HasExpression d (operand level.Comparison) e ts more
  of_comparison h = lift level.Sum d e ts more (of_sum h)

  of_both : HasExpression d g.Operand e ts more → HasExpression d (operand level.Both) e ts more
  of_both h = lift level.Comparison d e ts more (of_comparison h)

  of_either : HasExpression d g.Operand e ts more → HasExpression d (operand level.Either) e ts more
  of_either h = lift level.Both d e ts more (of_both h)

  -- and a whole expression
  pub whole : HasExpression d g.Operand e ts more → HasExpression d g.Expression e ts more
  whole h = lift level.Either d e ts more (of_either h)

  operand_of : (lv : Level) → HasExpression d g.Operand e ts more → HasExpression d (operand lv) e ts more
  operand_of level.Product h = h
  operand_of level.Sum h = of_sum h
  operand_of level.Comparison h = of_comparison h
  operand_of level.Both h = of_both h
  operand_of level.Either h = of_either h

  -- as an operation of any level is
  from_both : HasExpression d (g.Operation level.Both) e ts more → HasExpression d g.Expression e ts more
  from_both h = lift level.Either d e ts more h

  from_comparison : HasExpression d (g.Operation level.Comparison) e ts more → HasExpression d g.Expression e ts more
  from_comparison h = from_both (lift level.Both d e ts more h)

  from_sum : HasExpression d (g.Operation level.Sum) e ts more → HasExpression d g.Expression e ts more
  from_sum h = from_comparison (lift level.Comparison d e ts more h)

  whole_of : (lv : Level) → HasExpression d (g.Operation lv) e ts more → HasExpression d g.Expression e ts more
  whole_of level.Either h = h
  whole_of level.Both h = from_both h
  whole_of level.Comparison h = from_comparison h
  whole_of level.Sum h = from_sum h
  whole_of level.Product h = from_sum (lift level.Sum d e ts more h)

-- the level of an operator, where it is listed
abbrev level_of : Operator → Level
level_of o.Or = level.Either
level_of o.And = level.Both
level_of o.Eq = level.Comparison
level_of o.Ne = level.Comparison
level_of o.Lt = level.Comparison
level_of o.Le = level.Comparison
level_of o.Gt = level.Comparison
level_of o.Ge = level.Comparison
level_of o.Add = level.Sum
level_of o.Sub = level.Sum
level_of o.Mul = level.Product
level_of o.Div = level.Product
level_of o.Rem = level.Product

listed : (x : Operator) → In (operation (operator_sign x) x) (operations (level_of x))
listed o.Or = first
listed o.And = first
listed o.Eq = first
listed o.Ne = later first
listed o.Lt = later (later first)
listed o.Le = later (later (later first))
listed o.Gt = later (later (later (later first)))
listed o.Ge = later (later (later (later (later first))))
listed o.Add = first
listed o.Sub = later first
listed o.Mul = first
listed o.Div = later first
listed o.Rem = later (later first)

-- nothing goes on from an operation
record Ending (lv : Level) (d : ℕ) : Type 0 where
  values : List Value
  reads : (ts : List Token) → Reads (due d (goes_on lv)) ts values ts
  is : (e : Expression) → from_operand_in (item values 0) e ≡ e

ending : (lv : Level) (d : ℕ) → Ending lv d
ending level.Comparison d = record { values = []; reads = λ ts. done; is = λ e. refl }
ending level.Either d = record {
  values = v.FromOperand (λ e. e) ∷ [];
  reads = λ ts. row d (g.FromOperand level.Either) first done done refl;
  is = λ e. refl;
}
ending level.Both d = record {
  values = v.FromOperand (λ e. e) ∷ [];
  reads = λ ts. row d (g.FromOperand level.Both) first done done refl;
  is = λ e. refl;
}
ending level.Sum d = record {
  values = v.FromOperand (λ e. e) ∷ [];
  reads = λ ts. row d (g.FromOperand level.Sum) first done done refl;
  is = λ e. refl;
}
ending level.Product d = record {
  values = v.FromOperand (λ e. e) ∷ [];
  reads = λ ts. row d (g.FromOperand level.Product) first done done refl;
  is = λ e. refl;
}

-- an operation on two operands, without its parentheses
joined : (lv : Level) (x : Operator) (line d : ℕ) (left right : Expression) (ts : List Token) (behind more : List Kind)
    → In (operation (operator_sign x) x) (operations lv)
    → (a : HasExpression d (operand lv) left ts (sign (operator_sign x) ∷ behind))
    → HasExpression d (operand lv) right (located_from (past (sign (operator_sign x)) a.place) (a.line + ends (sign (operator_sign x))) behind) more
    → HasExpression d (g.Operation lv) (tree.Binary x line left right) ts more
joined lv x line d left right ts behind more i a b =
    let none = ending lv d in
    record {
      again = argument a.again.line (from_operand_in (item none.values 0) (tree.Binary x a.line a.again.value b.again.value));
      same = ap bare_expression (none.is _) ∙ (λ i. tree.Binary x 0 (a.same i) (b.same i));
      place = b.place;
      line = b.line;
      reads = λ xs vs rest next.
          row d (g.Operation lv) first
          (a.reads _ _ _ (row d (g.FromOperand lv) (later (in_map (λ y. operation_form lv y) i)) (take refl (b.reads _ _ _ (none.reads _))) done refl))
          next refl;
    }

-- an expression in parentheses
grouped : (e : Expression) (d p l : ℕ) (ks more : List Kind)
    → HasExpression (suc d) g.Expression e (located_from (past (sign s.OpenParen) p) (l + ends (sign s.OpenParen)) ks) (sign s.CloseParen ∷ more)
    → HasExpression d g.Operand e (located_from p l (sign s.OpenParen ∷ ks)) more
grouped e d p l ks more w = record {
  again = argument l w.again.value;
  same = w.same;
  place = _;
  line = _;
  reads = λ xs vs rest next. row d g.Operand (later (later (later (later first)))) (take refl (w.reads _ _ _ (take refl done))) next refl;
}

-- an expression as an operand
pub operand_again : (e : Expression) (d p l : ℕ) (more : List Kind) → FineExpression e
    → HasExpression d g.Operand e (located_from p l (expression_tokens e ++ more)) more
operand_again (tree.Number (pos n)) d p l more fine = record {
  again = argument l (tree.Number (pos n));
  same = refl;
  place = _;
  line = _;
  reads = λ xs vs rest next. row d g.Operand (later first) (take refl done) next refl;
}
operand_again (tree.Number (negsuc n)) d p l more fine = absurd fine
operand_again (tree.Name x) d p l more fine = record {
  again = argument l (tree.Name (in_line x l));
  same = refl;
  place = _;
  line = _;
  reads = λ xs vs rest next. row d g.Operand (later (later first)) (take refl (row d g.Index first done done refl)) next refl;
}
operand_again (tree.Element x index) d p l more fine =
    let close = sign s.CloseBracket ∷ more in
    let i = whole (suc d) index _ close
    (operand_again index (suc d) (past (sign s.OpenBracket) (past (name x) p)) (l + ends (name x) + ends (sign s.OpenBracket)) close fine.1) in
    regroup expr_value (SameExpression (tree.Element x index)) d g.Operand p l more
    (ap (λ ks. name x ∷ sign s.OpenBracket ∷ ks) (append_assoc (expression_tokens index) (sign s.CloseBracket ∷ []) more))
    (record {
      again = argument l (tree.Element (in_line x l) i.again.value);
      same = ap (tree.Element (bare_name x)) i.same;
      place = _;
      line = _;
      reads = λ xs vs rest next.
          row d g.Operand (later (later first))
          (take refl (row d g.Index (later first) (take refl (i.reads _ _ _ (take refl done))) done refl)) next refl;
    })
operand_again (tree.Len x) d p l more fine = record {
  again = argument l (tree.Len (in_line x _));
  same = refl;
  place = _;
  line = _;
  reads = λ xs vs rest next. row d g.Operand (later (later (later first))) (take refl (take refl done)) next refl;
}
operand_again (tree.Minus line e) d p l more fine =
    let i = operand_again e (suc d) (past (sign s.Minus) p) (l + ends (sign s.Minus)) more fine in
    record {
      again = argument l (tree.Minus l i.again.value);
      same = ap (tree.Minus 0) i.same;
      place = i.place;
      line = i.line;
      reads = λ xs vs rest next. row d g.Operand first (take refl (i.reads _ _ _ done)) next refl;
    }
operand_again (tree.Binary x line left right) d p l more fine =
    let e = tree.Binary x line left right in
    let op = sign (operator_sign x) in
    let close = sign s.CloseParen ∷ more in
    let lv = level_of x in
    let a = operand_of (suc d) left _ (op ∷ expression_tokens right ++ close) lv
    (operand_again left (suc d) (past (sign s.OpenParen) p) (l + ends (sign s.OpenParen)) (op ∷ expression_tokens right ++ close) fine.0) in
    let b = operand_of (suc d) right _ close lv (operand_again right (suc d) (past op a.place) (a.line + ends op) close fine.1) in
    let w = whole_of (suc d) e _ close lv (joined lv x line (suc d) left right _ (expression_tokens right ++ close) close (listed x) a b) in
    regroup expr_value (SameExpression e) d g.Operand p l more
    (ap (λ ks. sign s.OpenParen ∷ ks)
    (append_assoc (expression_tokens left ++ op ∷ expression_tokens right) (sign s.CloseParen ∷ []) more
    ∙ append_assoc (expression_tokens left) (op ∷ expression_tokens right) close))
    (grouped e d p l (expression_tokens left ++ (op ∷ expression_tokens right ++ close)) more w)

-- an expression
pub expression_again : (e : Expression) (d p l : ℕ) (more : List Kind) → FineExpression e
    → HasExpression d g.Expression e (located_from p l (expression_tokens e ++ more)) more
expression_again e d p l more fine = whole d e _ more (operand_again e d p l more fine)

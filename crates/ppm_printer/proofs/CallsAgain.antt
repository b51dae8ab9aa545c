-- The tokens of a call and of a fork derive them, lines apart.
use Rattle.std.proofs.Common.{◌≡◌, ◌∙◌, ℕ, suc, ◌+◌, List, [], ◌∷◌, ◌++◌, map, refl, ap, append_assoc}
use Rattle.ppm_grammar.specs.Rows.{first, later}
use Rattle.ppm_text.specs.declared.token.Sign.TheVariants as s
use Rattle.ppm_text.specs.declared.token.Keyword.TheVariants as k
use Rattle.ppm_text.specs.declared.token.Kind.{Kind}
use Rattle.ppm_tree.specs.declared.named.Named.{Named}
use Rattle.ppm_tree.specs.Tree.{Argument}
use Rattle.ppm_tree.specs.Tree as tree
use Rattle.ppm_rows.specs.Phrases.{Phrase, operand}
use Rattle.ppm_rows.specs.Phrases as g
use Rattle.ppm_rows.specs.Values.{Value, Expr, item, from_operand_in}
use Rattle.ppm_rows.specs.Values as v
use Rattle.ppm_printer.specs.Canonical.{name, word, sign, argument_tokens, list_tokens, more_tokens}
use Rattle.ppm_tree.specs.Lines.{bare_name, bare_argument}
use Rattle.ppm_printer.proofs.LexingLemmas.{past, ends, located_from}
use Rattle.ppm_printer.proofs.Fine.{FineArguments}
use Rattle.ppm_printer.proofs.Reading.{done, take, row, Stands, regroup}
use Rattle.ppm_tree.specs.Tree.{Side, Statement}
use Rattle.std.specs.Prelude.{Option, Some, None}
use Rattle.ppm_printer.specs.Canonical.{call_tokens, side_tokens, statement_tokens}
use Rattle.ppm_tree.specs.Lines.{bare_side, bare_statement}
use Rattle.ppm_printer.proofs.Fine.{FineSide, FineStatement}
use Rattle.ppm_printer.proofs.ExpressionsAgain.{in_line, argument, expression_again}

-- what is had of arguments
abbrev SameArguments : List Argument → List Argument → Type 0
SameArguments xs again = map bare_argument again ≡ map bare_argument xs

-- arguments with a comma in front of each
more_arguments_again : (xs : List Argument) (d p l : ℕ) (more : List Kind) → FineArguments xs
    → Stands v.Arguments (SameArguments xs) d g.MoreArguments (located_from p l (more_tokens argument_tokens xs ++ more)) more
more_arguments_again [] d p l more fine = record {
  again = [];
  same = refl;
  place = p;
  line = l;
  reads = λ xs vs rest next. row d g.MoreArguments first done next refl;
}
more_arguments_again (x ∷ xs) d p l more fine =
    let behind = more_tokens argument_tokens xs ++ more in
    let e = expression_again x.value d (past (sign s.Comma) p) (l + ends (sign s.Comma)) behind fine.0 in
    let others = more_arguments_again xs d e.place e.line more fine.1 in
    regroup v.Arguments (SameArguments (x ∷ xs)) d g.MoreArguments p l more
    (ap (λ ks. sign s.Comma ∷ ks) (append_assoc (argument_tokens x) (more_tokens argument_tokens xs) more))
    (record {
      again = e.again ∷ others.again;
      same = λ i. argument 0 (e.same i) ∷ others.same i;
      place = others.place;
      line = others.line;
      reads = λ xs vs rest next.
          row d g.MoreArguments (later first)
          (take refl (row d g.Argument first (e.reads _ _ _ done) (others.reads _ _ _ done) refl)) next refl;
    })

-- arguments with commas between them
some_arguments_again : (xs : List Argument) (d p l : ℕ) (more : List Kind) → FineArguments xs
    → Stands v.Arguments (SameArguments xs) d g.SomeArguments (located_from p l (list_tokens argument_tokens xs ++ more)) more
some_arguments_again [] d p l more fine = record {
  again = [];
  same = refl;
  place = p;
  line = l;
  reads = λ xs vs rest next. row d g.SomeArguments first done next refl;
}
some_arguments_again (x ∷ xs) d p l more fine =
    let behind = more_tokens argument_tokens xs ++ more in
    let e = expression_again x.value d p l behind fine.0 in
    let others = more_arguments_again xs d e.place e.line more fine.1 in
    regroup v.Arguments (SameArguments (x ∷ xs)) d g.SomeArguments p l more
    (append_assoc (argument_tokens x) (more_tokens argument_tokens xs) more)
    (record {
      again = e.again ∷ others.again;
      same = λ i. argument 0 (e.same i) ∷ others.same i;
      place = others.place;
      line = others.line;
      reads = λ xs vs rest next.
          row d g.SomeArguments (later first) (row d g.Argument first (e.reads _ _ _ done) (others.reads _ _ _ done) refl) next refl;
    })

-- arguments in their parentheses
arguments_again : (xs : List Argument) (d p l : ℕ) (more : List Kind) → FineArguments xs
    → Stands v.Arguments (SameArguments xs) d g.ArgumentList
    (located_from p l (sign s.OpenParen ∷ list_tokens argument_tokens xs ++ sign s.CloseParen ∷ more)) more
arguments_again xs d p l more fine =
    let h = some_arguments_again xs (suc d) (past (sign s.OpenParen) p) (l + ends (sign s.OpenParen)) (sign s.CloseParen ∷ more) fine in
    record {
      again = h.again;
      same = h.same;
      place = _;
      line = _;
      reads = λ xs vs rest next. row d g.ArgumentList first (take refl (h.reads _ _ _ (take refl done))) next refl;
    }

-- a call, apart from its target
abbrev call : Named → List Argument → Side
call callee arguments = record { target = None; callee = callee; arguments = arguments }

abbrev SameSide : Side → Side → Type 0
SameSide side again = bare_side again ≡ bare_side side

-- the tokens of a call in front of others
call_split : (side : Side) (more : List Kind) → call_tokens side ++ more
    ≡ name side.callee ∷ sign s.OpenParen ∷ list_tokens argument_tokens side.arguments ++ (sign s.CloseParen ∷ more)
call_split side more =
    ap (λ ks. name side.callee ∷ sign s.OpenParen ∷ ks) (append_assoc (list_tokens argument_tokens side.arguments) (sign s.CloseParen ∷ []) more)

-- a call
call_again : (side : Side) (d p l : ℕ) (more : List Kind) → FineSide side
    → Stands v.OneSide (SameSide (call side.callee side.arguments)) d g.Call (located_from p l (call_tokens side ++ more)) more
call_again side d p l more fine =
    let xs = arguments_again side.arguments d (past (name side.callee) p) (l + ends (name side.callee)) more fine.arguments in
    regroup v.OneSide (SameSide (call side.callee side.arguments)) d g.Call p l more (call_split side more)
    (record {
      again = call (in_line side.callee l) xs.again;
      same = λ i. record { target = None; callee = bare_name side.callee; arguments = xs.same i };
      place = xs.place;
      line = xs.line;
      reads = λ ys vs rest next. row d g.Call first (take refl (xs.reads _ _ _ done)) next refl;
    })

-- a call for a target
abbrev for_target : Named → Side → Side
for_target x side = record { target = Some x; callee = side.callee; arguments = side.arguments }

-- a side of a fork, without a target and with one
plain_side_again : (callee : Named) (arguments : List Argument) (d p l : ℕ) (more : List Kind) → FineSide (call callee arguments)
    → Stands v.OneSide (SameSide (call callee arguments)) d g.Side (located_from p l (side_tokens (call callee arguments) ++ more)) more
plain_side_again callee arguments d p l more fine =
    let xs = arguments_again arguments d (past (name callee) p) (l + ends (name callee)) more fine.arguments in
    regroup v.OneSide (SameSide (call callee arguments)) d g.Side p l more (call_split (call callee arguments) more)
    (record {
      again = call (in_line callee l) xs.again;
      same = λ i. record { target = None; callee = bare_name callee; arguments = xs.same i };
      place = xs.place;
      line = xs.line;
      reads = λ ys vs rest next. row d g.Side first (take refl (row d g.AfterTarget (later first) (xs.reads _ _ _ done) done refl)) next refl;
    })

target_side_again : (x callee : Named) (arguments : List Argument) (d p l : ℕ) (more : List Kind) → FineSide (for_target x (call callee arguments))
    → Stands v.OneSide (SameSide (for_target x (call callee arguments))) d g.Side
    (located_from p l (side_tokens (for_target x (call callee arguments)) ++ more)) more
target_side_again x callee arguments d p l more fine =
    let fine' : FineSide (call callee arguments) = record { target = tt; callee = fine.callee; arguments = fine.arguments } in
    let c = call_again (call callee arguments) d (past (sign s.Assign) (past (name x) p)) (l + ends (name x) + ends (sign s.Assign)) more fine' in
    record {
      again = for_target (in_line x l) c.again;
      same = λ i. record { target = Some (bare_name x); callee = (c.same i).callee; arguments = (c.same i).arguments };
      place = c.place;
      line = c.line;
      reads = λ ys vs rest next. row d g.Side first (take refl (row d g.AfterTarget first (take refl (c.reads _ _ _ done)) done refl)) next refl;
    }

side_by : (target : Option Named) (callee : Named) (arguments : List Argument) (d p l : ℕ) (more : List Kind)
    → FineSide (record { target = target; callee = callee; arguments = arguments })
    → Stands v.OneSide (SameSide (record { target = target; callee = callee; arguments = arguments })) d g.Side
    (located_from p l (side_tokens (record { target = target; callee = callee; arguments = arguments }) ++ more)) more
side_by None callee arguments d p l more fine = plain_side_again callee arguments d p l more fine
side_by (Some x) callee arguments d p l more fine = target_side_again x callee arguments d p l more fine

side_again : (side : Side) (d p l : ℕ) (more : List Kind) → FineSide side
    → Stands v.OneSide (SameSide side) d g.Side (located_from p l (side_tokens side ++ more)) more
side_again side d p l more fine = side_by side.target side.callee side.arguments d p l more fine

-- a statement that is the same, lines apart
abbrev pub SameStatement : Statement → Statement → Type 0
SameStatement x again = bare_statement again ≡ bare_statement x

-- a call that is a statement, without a target and with one
plain_call_again : (callee : Named) (arguments : List Argument) (d p l : ℕ) (more : List Kind) → FineSide (call callee arguments)
    → Stands v.OneStatement (SameStatement (tree.Call (call callee arguments))) d g.Statement
    (located_from p l (statement_tokens (tree.Call (call callee arguments)) ++ more)) more
plain_call_again callee arguments d p l more fine =
    let side = call callee arguments in
    let h = call_again side d (past (word k.Call) p) (l + ends (word k.Call)) (sign s.Semicolon ∷ more) fine in
    regroup v.OneStatement (SameStatement (tree.Call side)) d g.Statement p l more
    (ap (λ ks. word k.Call ∷ ks) (append_assoc (call_tokens side) (sign s.Semicolon ∷ []) more))
    (record {
      again = tree.Call h.again;
      same = ap tree.Call h.same;
      place = _;
      line = _;
      reads = λ xs vs rest next.
          row d g.Statement (later (later (later (later first)))) (take refl (h.reads _ _ _ (take refl done))) next refl;
    })

target_call_again : (x callee : Named) (arguments : List Argument) (d p l : ℕ) (more : List Kind) → FineSide (for_target x (call callee arguments))
    → Stands v.OneStatement (SameStatement (tree.Call (for_target x (call callee arguments)))) d g.Statement
    (located_from p l (statement_tokens (tree.Call (for_target x (call callee arguments))) ++ more)) more
target_call_again x callee arguments d p l more fine =
    let side = call callee arguments in
    let fine' : FineSide side = record { target = tt; callee = fine.callee; arguments = fine.arguments } in
    let h = call_again side d (past (word k.Call) (past (sign s.Assign) (past (name x) p)))
    (l + ends (name x) + ends (sign s.Assign) + ends (word k.Call)) (sign s.Semicolon ∷ more) fine' in
    regroup v.OneStatement (SameStatement (tree.Call (for_target x side))) d g.Statement p l more
    (ap (λ ks. name x ∷ sign s.Assign ∷ word k.Call ∷ ks) (append_assoc (call_tokens side) (sign s.Semicolon ∷ []) more))
    (record {
      again = tree.Call (for_target (in_line x l) h.again);
      same = λ i. tree.Call (record { target = Some (bare_name x); callee = (h.same i).callee; arguments = (h.same i).arguments });
      place = _;
      line = _;
      reads = λ xs vs rest next.
          row d g.Statement (later first)
          (take refl (row d g.AfterName first (take refl (row d g.Assigned (later first) (take refl (h.reads _ _ _ (take refl done))) done refl)) done refl))
          next refl;
    })

pub called_again : (target : Option Named) (callee : Named) (arguments : List Argument) (d p l : ℕ) (more : List Kind)
    → FineSide (record { target = target; callee = callee; arguments = arguments })
    → Stands v.OneStatement (SameStatement (tree.Call (record { target = target; callee = callee; arguments = arguments }))) d g.Statement
    (located_from p l (statement_tokens (tree.Call (record { target = target; callee = callee; arguments = arguments })) ++ more)) more
called_again None callee arguments d p l more fine = plain_call_again callee arguments d p l more fine
called_again (Some x) callee arguments d p l more fine = target_call_again x callee arguments d p l more fine

-- a fork
pub fork_again : (left right : Side) (d p l : ℕ) (more : List Kind) → FineStatement (tree.Fork left right)
    → Stands v.OneStatement (SameStatement (tree.Fork left right)) d g.Statement (located_from p l (statement_tokens (tree.Fork left right) ++ more)) more
fork_again left right d p l more fine =
    let close = sign s.Semicolon ∷ more in
    let behind = word k.And ∷ side_tokens right ++ close in
    let a = side_again left d (past (word k.Fork) p) (l + ends (word k.Fork)) behind fine.0 in
    let b = side_again right d (past (word k.And) a.place) (a.line + ends (word k.And)) close fine.1 in
    regroup v.OneStatement (SameStatement (tree.Fork left right)) d g.Statement p l more
    (ap (λ ks. word k.Fork ∷ ks) (append_assoc (side_tokens left ++ word k.And ∷ side_tokens right) (sign s.Semicolon ∷ []) more
    ∙ append_assoc (side_tokens left) (word k.And ∷ side_tokens right) close))
    (record {
      again = tree.Fork a.again b.again;
      same = λ i. tree.Fork (a.same i) (b.same i);
      place = _;
      line = _;
      reads = λ xs vs rest next.
          row d g.Statement (later (later (later (later (later first))))) (take refl (a.reads _ _ _ (take refl (b.reads _ _ _ (take refl done))))) next refl;
    })

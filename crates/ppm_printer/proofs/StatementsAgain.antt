-- The tokens of a statement and of a block derive them, lines apart.
use Rattle.std.proofs.Common.{◌≡◌, ◌∙◌, ℕ, suc, ◌+◌, List, [], ◌∷◌, ◌++◌, refl, ap, append_assoc}
use Rattle.std.specs.Prelude.{Option, Some, None}
use Rattle.ppm_grammar.specs.Rows.{first, later}
use Rattle.ppm_text.specs.declared.token.Sign.TheVariants as s
use Rattle.ppm_text.specs.declared.token.Keyword.TheVariants as k
use Rattle.ppm_text.specs.declared.token.Kind.{Kind}
use Rattle.ppm_tree.specs.declared.named.Named.{Named}
use Rattle.ppm_tree.specs.Tree.{Expression, Argument, Side, Statement, Block, Nil, Then, Give}
use Rattle.ppm_tree.specs.Tree as tree
use Rattle.ppm_rows.specs.Phrases.{Phrase}
use Rattle.ppm_rows.specs.Phrases as g
use Rattle.ppm_rows.specs.Values as v
use Rattle.ppm_printer.specs.Canonical.{name, word, sign, expression_tokens, braced}
use Rattle.ppm_printer.specs.Canonical.{assigned_tokens, statement_tokens, block_tokens, else_tokens, give_tokens}
use Rattle.ppm_tree.specs.Lines.{bare_name, bare_block, bare_give}
use Rattle.ppm_printer.proofs.LexingLemmas.{past, ends, located_from}
use Rattle.ppm_printer.proofs.Fine.{FineStatement, FineBlock, FineGive}
use Rattle.ppm_printer.proofs.Reading.{done, take, row, Stands, regroup}
use Rattle.ppm_printer.proofs.ExpressionsAgain.{in_line, expression_again}
use Rattle.ppm_printer.proofs.CallsAgain.{SameStatement, called_again, fork_again}

-- what is assigned, up to the end of the statement
assigned_split : (e : Expression) (more : List Kind) → assigned_tokens e ++ more ≡ sign s.Assign ∷ expression_tokens e ++ (sign s.Semicolon ∷ more)
assigned_split e more = ap (λ ks. sign s.Assign ∷ ks) (append_assoc (expression_tokens e) (sign s.Semicolon ∷ []) more)

-- a block in its braces
abbrev SameBlock : Block → Block → Type 0
SameBlock b again = bare_block again ≡ bare_block b

braced_again : (b : Block) (d p l : ℕ) (more : List Kind)
    → Stands v.Statements (SameBlock b) (suc d) g.Statements
    (located_from (past (sign s.OpenBrace) p) (l + ends (sign s.OpenBrace)) (block_tokens b ++ (sign s.CloseBrace ∷ more))) (sign s.CloseBrace ∷ more)
    → Stands v.Statements (SameBlock b) d g.Block (located_from p l (braced (block_tokens b) ++ more)) more
braced_again b d p l more h =
    regroup v.Statements (SameBlock b) d g.Block p l more
    (ap (λ ks. sign s.OpenBrace ∷ ks) (append_assoc (block_tokens b) (sign s.CloseBrace ∷ []) more))
    (record {
      again = h.again;
      same = h.same;
      place = _;
      line = _;
      reads = λ xs vs rest next. row d g.Block first (take refl (h.reads _ _ _ (take refl done))) next refl;
    })

-- what stands after the first block of an `if`
else_again : (b : Block) (d p l : ℕ) (more : List Kind)
    → ((q m : ℕ) → Stands v.Statements (SameBlock b) d g.Block (located_from q m (braced (block_tokens b) ++ more)) more)
    → Stands v.Statements (SameBlock b) d g.Else (located_from p l (else_tokens b ++ more)) more
else_again Nil d p l more h = record {
  again = Nil;
  same = refl;
  place = p;
  line = l;
  reads = λ xs vs rest next. row d g.Else first done next refl;
}
else_again (Then x others) d p l more h =
    let b = h (past (word k.Else) p) (l + ends (word k.Else)) in
    record {
      again = b.again;
      same = b.same;
      place = b.place;
      line = b.line;
      reads = λ xs vs rest next. row d g.Else (later first) (take refl (b.reads _ _ _ done)) next refl;
    }

-- what begins with a name: an assignment to a local and to an element
assign_again : (x : Named) (e : Expression) (d p l : ℕ) (more : List Kind) → FineStatement (tree.Assign x e)
    → Stands v.OneStatement (SameStatement (tree.Assign x e)) d g.Statement (located_from p l (statement_tokens (tree.Assign x e) ++ more)) more
assign_again x e d p l more fine =
    let close = sign s.Semicolon ∷ more in
    let h = expression_again e d (past (sign s.Assign) (past (name x) p)) (l + ends (name x) + ends (sign s.Assign)) close fine.1 in
    regroup v.OneStatement (SameStatement (tree.Assign x e)) d g.Statement p l more (ap (λ ks. name x ∷ ks) (assigned_split e more))
    (record {
      again = tree.Assign (in_line x l) h.again.value;
      same = ap (tree.Assign (bare_name x)) h.same;
      place = _;
      line = _;
      reads = λ xs vs rest next.
          row d g.Statement (later first)
          (take refl (row d g.AfterName first (take refl (row d g.Assigned first (h.reads _ _ _ (take refl done)) done refl)) done refl)) next refl;
    })

put_again : (x : Named) (index e : Expression) (d p l : ℕ) (more : List Kind) → FineStatement (tree.Put x index e)
    → Stands v.OneStatement (SameStatement (tree.Put x index e)) d g.Statement (located_from p l (statement_tokens (tree.Put x index e) ++ more)) more
put_again x index e d p l more fine =
    let close = sign s.Semicolon ∷ more in
    let behind = sign s.CloseBracket ∷ sign s.Assign ∷ expression_tokens e ++ close in
    let i = expression_again index (suc d) (past (sign s.OpenBracket) (past (name x) p)) (l + ends (name x) + ends (sign s.OpenBracket)) behind fine.1 in
    let h = expression_again e d (past (sign s.Assign) (past (sign s.CloseBracket) i.place)) (i.line + ends (sign s.CloseBracket) + ends (sign s.Assign))
    close fine.2 in
    regroup v.OneStatement (SameStatement (tree.Put x index e)) d g.Statement p l more
    (ap (λ ks. name x ∷ sign s.OpenBracket ∷ ks) (append_assoc (expression_tokens index) (sign s.CloseBracket ∷ assigned_tokens e) more
    ∙ ap (λ ks. expression_tokens index ++ sign s.CloseBracket ∷ ks) (assigned_split e more)))
    (record {
      again = tree.Put (in_line x l) i.again.value h.again.value;
      same = λ j. tree.Put (bare_name x) (i.same j) (h.same j);
      place = _;
      line = _;
      reads = λ xs vs rest next.
          row d g.Statement (later first)
          (take refl (row d g.AfterName (later first)
          (row d g.Element first (take refl (i.reads _ _ _ (take refl done))) (take refl (h.reads _ _ _ (take refl done))) refl) done refl)) next refl;
    })

let_again : (x : Named) (e : Expression) (d p l : ℕ) (more : List Kind) → FineStatement (tree.Let x e)
    → Stands v.OneStatement (SameStatement (tree.Let x e)) d g.Statement (located_from p l (statement_tokens (tree.Let x e) ++ more)) more
let_again x e d p l more fine =
    let close = sign s.Semicolon ∷ more in
    let h = expression_again e d (past (sign s.Assign) (past (name x) (past (word k.Let) p))) (l + ends (word k.Let) + ends (name x) + ends (sign s.Assign))
    close fine.1 in
    regroup v.OneStatement (SameStatement (tree.Let x e)) d g.Statement p l more (ap (λ ks. word k.Let ∷ name x ∷ ks) (assigned_split e more))
    (record {
      again = tree.Let (in_line x _) h.again.value;
      same = ap (tree.Let (bare_name x)) h.same;
      place = _;
      line = _;
      reads = λ xs vs rest next.
          row d g.Statement first (take refl (take refl (take refl (h.reads _ _ _ (take refl done))))) next refl;
    })

-- a block in braces, wherever it stands
abbrev HasBlock : Block → ℕ → Type 0
HasBlock b d = (q m : ℕ) (rest : List Kind) → Stands v.Statements (SameBlock b) d g.Block (located_from q m (braced (block_tokens b) ++ rest)) rest

block_by : (b : Block) (d : ℕ)
    → ((q m : ℕ) (rest : List Kind) → Stands v.Statements (SameBlock b) (suc d) g.Statements (located_from q m (block_tokens b ++ rest)) rest)
    → HasBlock b d
block_by b d h q m rest =
    braced_again b d q m rest (h (past (sign s.OpenBrace) q) (m + ends (sign s.OpenBrace)) (sign s.CloseBrace ∷ rest))

if_again : (e : Expression) (block other : Block) (d p l : ℕ) (more : List Kind) → FineStatement (tree.If e block other) → HasBlock block d → HasBlock other d
    → Stands v.OneStatement (SameStatement (tree.If e block other)) d g.Statement (located_from p l (statement_tokens (tree.If e block other) ++ more)) more
if_again e block other d p l more fine holds fails =
    let behind = else_tokens other ++ more in
    let h = expression_again e d (past (word k.If) p) (l + ends (word k.If)) (braced (block_tokens block) ++ behind) fine.0 in
    let a = holds h.place h.line behind in
    let b = else_again other d a.place a.line more (λ q m. fails q m more) in
    regroup v.OneStatement (SameStatement (tree.If e block other)) d g.Statement p l more
    (ap (λ ks. word k.If ∷ ks) (append_assoc (expression_tokens e ++ braced (block_tokens block)) (else_tokens other) more
    ∙ append_assoc (expression_tokens e) (braced (block_tokens block)) behind))
    (record {
      again = tree.If h.again.value a.again b.again;
      same = λ i. tree.If (h.same i) (a.same i) (b.same i);
      place = b.place;
      line = b.line;
      reads = λ xs vs rest next.
          row d g.Statement (later (later first)) (take refl (h.reads _ _ _ (a.reads _ _ _ (b.reads _ _ _ done)))) next refl;
    })

while_again : (e : Expression) (block : Block) (d p l : ℕ) (more : List Kind) → FineStatement (tree.While e block) → HasBlock block d
    → Stands v.OneStatement (SameStatement (tree.While e block)) d g.Statement (located_from p l (statement_tokens (tree.While e block) ++ more)) more
while_again e block d p l more fine holds =
    let h = expression_again e d (past (word k.While) p) (l + ends (word k.While)) (braced (block_tokens block) ++ more) fine.0 in
    let a = holds h.place h.line more in
    regroup v.OneStatement (SameStatement (tree.While e block)) d g.Statement p l more
    (ap (λ ks. word k.While ∷ ks) (append_assoc (expression_tokens e) (braced (block_tokens block)) more))
    (record {
      again = tree.While h.again.value a.again;
      same = λ i. tree.While (h.same i) (a.same i);
      place = a.place;
      line = a.line;
      reads = λ xs vs rest next.
          row d g.Statement (later (later (later first))) (take refl (h.reads _ _ _ (a.reads _ _ _ done))) next refl;
    })

split_again : (line : ℕ) (r : Named) (e : Expression) (x y : Named) (block : Block) (d p l : ℕ) (more : List Kind)
    → FineStatement (tree.Split line r e x y block) → HasBlock block d
    → Stands v.OneStatement (SameStatement (tree.Split line r e x y block)) d g.Statement
    (located_from p l (statement_tokens (tree.Split line r e x y block) ++ more)) more
split_again line r e x y block d p l more fine holds =
    let inner = word k.Into ∷ name x ∷ sign s.Comma ∷ name y ∷ braced (block_tokens block) in
    let h = expression_again e d (past (word k.At) (past (name r) (past (word k.Split) p)))
    (l + ends (word k.Split) + ends (name r) + ends (word k.At)) (inner ++ more) fine.1 in
    let a = holds (past (name y) (past (sign s.Comma) (past (name x) (past (word k.Into) h.place))))
    (h.line + ends (word k.Into) + ends (name x) + ends (sign s.Comma) + ends (name y)) more in
    regroup v.OneStatement (SameStatement (tree.Split line r e x y block)) d g.Statement p l more
    (ap (λ ks. word k.Split ∷ name r ∷ word k.At ∷ ks) (append_assoc (expression_tokens e) inner more))
    (record {
      again = tree.Split l (in_line r _) h.again.value (in_line x _) (in_line y _) a.again;
      same = λ i. tree.Split 0 (bare_name r) (h.same i) (bare_name x) (bare_name y) (a.same i);
      place = a.place;
      line = a.line;
      reads = λ xs vs rest next.
          row d g.Statement (later (later (later (later (later (later first))))))
          (take refl (take refl (take refl (h.reads _ _ _ (take refl (take refl (take refl (take refl (a.reads _ _ _ done)))))))))
          next refl;
    })

each_again : (i x r : Named) (block : Block) (d p l : ℕ) (more : List Kind) → HasBlock block d
    → Stands v.OneStatement (SameStatement (tree.Each i x r block)) d g.Statement (located_from p l (statement_tokens (tree.Each i x r block) ++ more)) more
each_again i x r block d p l more holds =
    let a = holds (past (name r) (past (word k.In) (past (name x) (past (sign s.Comma) (past (name i) (past (word k.Each) p))))))
    (l + ends (word k.Each) + ends (name i) + ends (sign s.Comma) + ends (name x) + ends (word k.In) + ends (name r)) more in
    record {
      again = tree.Each (in_line i _) (in_line x _) (in_line r _) a.again;
      same = ap (tree.Each (bare_name i) (bare_name x) (bare_name r)) a.same;
      place = a.place;
      line = a.line;
      reads = λ xs vs rest next.
          row d g.Statement (later (later (later (later (later (later (later first)))))))
          (take refl (take refl (take refl (take refl (take refl (take refl (a.reads _ _ _ done))))))) next refl;
    }

mutual
  -- a statement
  pub statement_again : (x : Statement) (d p l : ℕ) (more : List Kind) → FineStatement x
      → Stands v.OneStatement (SameStatement x) d g.Statement (located_from p l (statement_tokens x ++ more)) more
  statement_again (tree.Let x e) d p l more fine = let_again x e d p l more fine
  statement_again (tree.Assign x e) d p l more fine = assign_again x e d p l more fine
  statement_again (tree.Put x index e) d p l more fine = put_again x index e d p l more fine
  statement_again (tree.Call side) d p l more fine = called_again side.target side.callee side.arguments d p l more fine
  statement_again (tree.Fork left right) d p l more fine = fork_again left right d p l more fine
  statement_again (tree.If e block other) d p l more fine =
      if_again e block other d p l more fine (block_by block d (λ q m rest. statements_again block (suc d) q m rest fine.1))
      (block_by other d (λ q m rest. statements_again other (suc d) q m rest fine.2))
  statement_again (tree.While e block) d p l more fine =
      while_again e block d p l more fine (block_by block d (λ q m rest. statements_again block (suc d) q m rest fine.1))
  statement_again (tree.Split line r e x y block) d p l more fine =
      split_again line r e x y block d p l more fine (block_by block d (λ q m rest. statements_again block (suc d) q m rest fine.4))
  statement_again (tree.Each i x r block) d p l more fine =
      each_again i x r block d p l more (block_by block d (λ q m rest. statements_again block (suc d) q m rest fine.3))

  -- the statements of a block
  pub statements_again : (b : Block) (d p l : ℕ) (more : List Kind) → FineBlock b
      → Stands v.Statements (SameBlock b) d g.Statements (located_from p l (block_tokens b ++ more)) more
  statements_again Nil d p l more fine = record {
    again = Nil;
    same = refl;
    place = p;
    line = l;
    reads = λ xs vs rest next. row d g.Statements first done next refl;
  }
  statements_again (Then x others) d p l more fine =
      let a = statement_again x d p l (block_tokens others ++ more) fine.0 in
      let b = statements_again others d a.place a.line more fine.1 in
      regroup v.Statements (SameBlock (Then x others)) d g.Statements p l more (append_assoc (statement_tokens x) (block_tokens others) more)
      (record {
        again = Then a.again b.again;
        same = λ i. Then (a.same i) (b.same i);
        place = b.place;
        line = b.line;
        reads = λ xs vs rest next. row d g.Statements (later first) (a.reads _ _ _ (b.reads _ _ _ done)) next refl;
      })

-- what a body gives, if anything
pub give_again : (gives : Option Give) (d p l : ℕ) (more : List Kind) → FineGive gives
    → Stands v.Gives (λ again. bare_give again ≡ bare_give gives) d g.Give (located_from p l (give_tokens gives ++ more)) more
give_again None d p l more fine = record {
  again = None;
  same = refl;
  place = p;
  line = l;
  reads = λ xs vs rest next. row d g.Give first done next refl;
}
give_again (Some x) d p l more fine =
    let h = expression_again x.value d (past (word k.Give) p) (l + ends (word k.Give)) (sign s.Semicolon ∷ more) fine in
    regroup v.Gives (λ again. bare_give again ≡ bare_give (Some x)) d g.Give p l more
    (ap (λ ks. word k.Give ∷ ks) (append_assoc (expression_tokens x.value) (sign s.Semicolon ∷ []) more))
    (record {
      again = Some (record { line = l; value = h.again.value });
      same = λ i. Some (record { line = 0; value = h.same i });
      place = _;
      line = _;
      reads = λ xs vs rest next. row d g.Give (later first) (take refl (h.reads _ _ _ (take refl done))) next refl;
    })

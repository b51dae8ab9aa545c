-- The tokens of a declaration derive it, lines apart.
use Rattle.std.proofs.Common.{◌≡◌, ◌∙◌, ℕ, suc, ◌+◌, ◌≤◌, List, [], ◌∷◌, ◌++◌, length, map, refl, ap, append_assoc, arith}
use Rattle.std.specs.Prelude.{ℤ, pos, negsuc}
use Rattle.ppm_grammar.specs.Rows.{first, later}
use Rattle.ppm_text.specs.declared.token.Sign.TheVariants as s
use Rattle.ppm_text.specs.declared.token.Keyword.TheVariants as k
use Rattle.ppm_text.specs.declared.token.Kind.{Kind}
use Rattle.ppm_tree.specs.declared.mode.Mode.{Mode}
use Rattle.ppm_tree.specs.declared.mode.Mode.TheVariants as mode
use Rattle.ppm_tree.specs.declared.named.Named.{Named}
use Rattle.ppm_tree.specs.declared.tree.Parameter.{Parameter}
use Rattle.ppm_tree.specs.declared.tree.Array.{Array}
use Rattle.ppm_tree.specs.declared.tree.ArrayInput.{ArrayInput}
use Rattle.ppm_tree.specs.Tree.{Block, Give, Procedure}
use Rattle.std.specs.Prelude.{Option}
use Rattle.ppm_rows.specs.Phrases as g
use Rattle.ppm_rows.specs.Values as v
use Rattle.ppm_printer.specs.Canonical.{name, word, sign, more_tokens, list_tokens, integer_tokens, block_tokens, give_tokens, mode_word, braced}
use Rattle.ppm_printer.specs.Canonical.{parameter_tokens, array_tokens, procedure_tokens, input_tokens}
use Rattle.ppm_tree.specs.Lines.{bare_name, bare_block, bare_give, bare_parameter, bare_array, bare_procedure, bare_input}
use Rattle.ppm_printer.proofs.LexingLemmas.{past, ends, located_from}
use Rattle.ppm_printer.proofs.Fine.{FineBlock, FineGive, FineProcedure, FineInput}
use Rattle.ppm_printer.proofs.Reading.{done, take, row, Stands, regroup}
use Rattle.ppm_printer.proofs.ExpressionsAgain.{in_line}
use Rattle.ppm_printer.proofs.StatementsAgain.{statements_again, give_again}

-- a parameter
mode_again : (m : Mode) (d p l : ℕ) (more : List Kind)
    → Stands v.Taken (λ again. again ≡ m) d g.Mode (located_from p l (word (mode_word m) ∷ more)) more
mode_again mode.Mut d p l more = record {
  again = mode.Mut;
  same = refl;
  place = _;
  line = _;
  reads = λ xs vs rest next. row d g.Mode first (take refl done) next refl;
}
mode_again mode.Ref d p l more = record {
  again = mode.Ref;
  same = refl;
  place = _;
  line = _;
  reads = λ xs vs rest next. row d g.Mode (later first) (take refl done) next refl;
}
mode_again mode.Int d p l more = record {
  again = mode.Int;
  same = refl;
  place = _;
  line = _;
  reads = λ xs vs rest next. row d g.Mode (later (later first)) (take refl done) next refl;
}

abbrev parameter : Mode → Named → Parameter
parameter m x = record { mode = m; name = x }

parameter_again : (x : Parameter) (d p l : ℕ) (more : List Kind)
    → Stands v.OneParameter (λ again. bare_parameter again ≡ bare_parameter x) d g.Parameter (located_from p l (parameter_tokens x ++ more)) more
parameter_again x d p l more =
    let m = mode_again x.mode d p l (name x.name ∷ more) in
    record {
      again = parameter m.again (in_line x.name _);
      same = λ i. parameter (m.same i) (bare_name x.name);
      place = _;
      line = _;
      reads = λ xs vs rest next. row d g.Parameter first (m.reads _ _ _ (take refl done)) next refl;
    }

-- parameters, with a comma in front of each, with commas between them, and in their parentheses
abbrev SameParameters : List Parameter → List Parameter → Type 0
SameParameters xs again = map bare_parameter again ≡ map bare_parameter xs

more_parameters_again : (xs : List Parameter) (d p l : ℕ) (more : List Kind)
    → Stands v.Parameters (SameParameters xs) d g.MoreParameters (located_from p l (more_tokens parameter_tokens xs ++ more)) more
more_parameters_again [] d p l more = record {
  again = [];
  same = refl;
  place = p;
  line = l;
  reads = λ xs vs rest next. row d g.MoreParameters first done next refl;
}
more_parameters_again (x ∷ xs) d p l more =
    let a = parameter_again x d (past (sign s.Comma) p) (l + ends (sign s.Comma)) (more_tokens parameter_tokens xs ++ more) in
    let others = more_parameters_again xs d a.place a.line more in
    regroup v.Parameters (SameParameters (x ∷ xs)) d g.MoreParameters p l more
    (ap (λ ks. sign s.Comma ∷ ks) (append_assoc (parameter_tokens x) (more_tokens parameter_tokens xs) more))
    (record {
      again = a.again ∷ others.again;
      same = λ i. a.same i ∷ others.same i;
      place = others.place;
      line = others.line;
      reads = λ xs vs rest next. row d g.MoreParameters (later first) (take refl (a.reads _ _ _ (others.reads _ _ _ done))) next refl;
    })

some_parameters_again : (xs : List Parameter) (d p l : ℕ) (more : List Kind)
    → Stands v.Parameters (SameParameters xs) d g.SomeParameters (located_from p l (list_tokens parameter_tokens xs ++ more)) more
some_parameters_again [] d p l more = record {
  again = [];
  same = refl;
  place = p;
  line = l;
  reads = λ xs vs rest next. row d g.SomeParameters first done next refl;
}
some_parameters_again (x ∷ xs) d p l more =
    let a = parameter_again x d p l (more_tokens parameter_tokens xs ++ more) in
    let others = more_parameters_again xs d a.place a.line more in
    regroup v.Parameters (SameParameters (x ∷ xs)) d g.SomeParameters p l more
    (append_assoc (parameter_tokens x) (more_tokens parameter_tokens xs) more)
    (record {
      again = a.again ∷ others.again;
      same = λ i. a.same i ∷ others.same i;
      place = others.place;
      line = others.line;
      reads = λ xs vs rest next. row d g.SomeParameters (later first) (a.reads _ _ _ (others.reads _ _ _ done)) next refl;
    })

parameters_again : (xs : List Parameter) (d p l : ℕ) (more : List Kind)
    → Stands v.Parameters (SameParameters xs) d g.ParameterList
    (located_from p l (sign s.OpenParen ∷ list_tokens parameter_tokens xs ++ (sign s.CloseParen ∷ more))) more
parameters_again xs d p l more =
    let h = some_parameters_again xs (suc d) (past (sign s.OpenParen) p) (l + ends (sign s.OpenParen)) (sign s.CloseParen ∷ more) in
    record {
      again = h.again;
      same = h.same;
      place = _;
      line = _;
      reads = λ xs vs rest next. row d g.ParameterList first (take refl (h.reads _ _ _ (take refl done))) next refl;
    }

-- a body: its statements and what it gives
abbrev Body : Type 0
Body = Block × Option Give

body_again : (body : Block) (gives : Option Give) (d p l : ℕ) (more : List Kind) → FineBlock body → FineGive gives
    → Stands (λ (b : Body). v.Body b.0 b.1) (λ b. (bare_block b.0 ≡ bare_block body) × (bare_give b.1 ≡ bare_give gives)) d g.Body
    (located_from p l (braced (block_tokens body ++ give_tokens gives) ++ more)) more
body_again body gives d p l more fine also =
    let inner = block_tokens body ++ give_tokens gives in
    let close = sign s.CloseBrace ∷ more in
    let b = statements_again body (suc d) (past (sign s.OpenBrace) p) (l + ends (sign s.OpenBrace)) (give_tokens gives ++ close) fine in
    let given = give_again gives (suc d) b.place b.line close also in
    regroup (λ (b : Body). v.Body b.0 b.1) (λ b. (bare_block b.0 ≡ bare_block body) × (bare_give b.1 ≡ bare_give gives)) d g.Body p l more
    (ap (λ ks. sign s.OpenBrace ∷ ks) (append_assoc inner (sign s.CloseBrace ∷ []) more ∙ append_assoc (block_tokens body) (give_tokens gives) close))
    (record {
      again = (b.again, given.again);
      same = (b.same, given.same);
      place = _;
      line = _;
      reads = λ xs vs rest next. row d g.Body first (take refl (b.reads _ _ _ (given.reads _ _ _ (take refl done)))) next refl;
    })

-- a procedure
pub procedure_again : (x : Procedure) (d p l : ℕ) (more : List Kind) → FineProcedure x
    → Stands (λ again. v.Declares (v.AProcedure again)) (λ again. bare_procedure again ≡ bare_procedure x) d g.Declaration
    (located_from p l (procedure_tokens x ++ more)) more
procedure_again x d p l more fine =
    let inner = braced (block_tokens x.body ++ give_tokens x.give) in
    let xs = parameters_again x.parameters d (past (name x.name) (past (word k.Proc) p)) (l + ends (word k.Proc) + ends (name x.name)) (inner ++ more) in
    let b = body_again x.body x.give d xs.place xs.line more fine.body fine.give in
    regroup (λ again. v.Declares (v.AProcedure again)) (λ again. bare_procedure again ≡ bare_procedure x) d g.Declaration p l more
    (ap (λ ks. word k.Proc ∷ name x.name ∷ sign s.OpenParen ∷ ks)
    (append_assoc (list_tokens parameter_tokens x.parameters) (sign s.CloseParen ∷ inner) more))
    (record {
      again = record { name = in_line x.name _; parameters = xs.again; body = b.again.0; give = b.again.1 };
      same = λ i. record { name = bare_name x.name; parameters = xs.same i; body = b.same.0 i; give = b.same.1 i };
      place = b.place;
      line = b.line;
      reads = λ ys vs rest next. row d g.Declaration (later first) (take refl (take refl (xs.reads _ _ _ (b.reads _ _ _ done)))) next refl;
    })

-- an array
pub array_again : (x : Array) (d p l : ℕ) (more : List Kind)
    → Stands (λ again. v.Declares (v.AnArray again)) (λ again. bare_array again ≡ bare_array x) d g.Declaration
    (located_from p l (array_tokens x ++ more)) more
array_again x d p l more = record {
  again = record { name = in_line x.name _; words = x.words };
  same = refl;
  place = _;
  line = _;
  reads = λ xs vs rest next.
      row d g.Declaration first
      (take refl (take refl (row d g.Length first (take refl (row (suc d) g.Words first (take refl done) (take refl done) refl)) (take refl done) refl)))
      next refl;
}

-- a value of an input, and values
integer_again : (z : ℤ) (d p l : ℕ) (more : List Kind)
    → Stands v.Integer (λ again. again ≡ z) d g.Integer (located_from p l (integer_tokens z ++ more)) more
integer_again (pos n) d p l more = record {
  again = pos n;
  same = refl;
  place = _;
  line = _;
  reads = λ xs vs rest next. row d g.Integer first (take refl done) next refl;
}
integer_again (negsuc n) d p l more = record {
  again = negsuc n;
  same = refl;
  place = _;
  line = _;
  reads = λ xs vs rest next. row d g.Integer (later first) (take refl (take refl done)) next refl;
}

more_integers_again : (zs : List ℤ) (d p l : ℕ) (more : List Kind)
    → Stands v.Integers (λ again. again ≡ zs) d g.MoreIntegers (located_from p l (more_tokens integer_tokens zs ++ more)) more
more_integers_again [] d p l more = record {
  again = [];
  same = refl;
  place = p;
  line = l;
  reads = λ xs vs rest next. row d g.MoreIntegers first done next refl;
}
more_integers_again (z ∷ zs) d p l more =
    let a = integer_again z d (past (sign s.Comma) p) (l + ends (sign s.Comma)) (more_tokens integer_tokens zs ++ more) in
    let others = more_integers_again zs d a.place a.line more in
    regroup v.Integers (λ again. again ≡ z ∷ zs) d g.MoreIntegers p l more
    (ap (λ ks. sign s.Comma ∷ ks) (append_assoc (integer_tokens z) (more_tokens integer_tokens zs) more))
    (record {
      again = a.again ∷ others.again;
      same = λ i. a.same i ∷ others.same i;
      place = others.place;
      line = others.line;
      reads = λ xs vs rest next. row d g.MoreIntegers (later first) (take refl (a.reads _ _ _ (others.reads _ _ _ done))) next refl;
    })

-- an input, of one value at least
input_by : (x : Named) (zs : List ℤ) (d p l : ℕ) (more : List Kind) → 1 ≤ length zs
    → Stands (λ again. v.Declares (v.AnInput again)) (λ again. bare_input again ≡ bare_input (record { name = x; values = zs })) d g.Declaration
    (located_from p l (input_tokens (record { name = x; values = zs }) ++ more)) more
input_by x [] d p l more some = absurd (omega (arith, some))
input_by x (z ∷ zs) d p l more some =
    let close = sign s.Semicolon ∷ more in
    let a = integer_again z d (past (sign s.Assign) (past (name x) (past (word k.Input) p)))
    (l + ends (word k.Input) + ends (name x) + ends (sign s.Assign)) (more_tokens integer_tokens zs ++ close) in
    let others = more_integers_again zs d a.place a.line close in
    regroup (λ again. v.Declares (v.AnInput again)) (λ again. bare_input again ≡ bare_input (record { name = x; values = z ∷ zs })) d g.Declaration p l more
    (ap (λ ks. word k.Input ∷ name x ∷ sign s.Assign ∷ ks)
    (append_assoc (list_tokens integer_tokens (z ∷ zs)) (sign s.Semicolon ∷ []) more
    ∙ append_assoc (integer_tokens z) (more_tokens integer_tokens zs) close))
    (record {
      again = record { name = in_line x _; values = a.again ∷ others.again };
      same = λ i. record { name = bare_name x; values = a.same i ∷ others.same i };
      place = _;
      line = _;
      reads = λ xs vs rest next.
          row d g.Declaration (later (later first))
          (take refl (take refl (take refl (a.reads _ _ _ (others.reads _ _ _ (take refl done)))))) next refl;
    })

pub input_again : (x : ArrayInput) (d p l : ℕ) (more : List Kind) → FineInput x
    → Stands (λ again. v.Declares (v.AnInput again)) (λ again. bare_input again ≡ bare_input x) d g.Declaration
    (located_from p l (input_tokens x ++ more)) more
input_again x d p l more fine = input_by x.name x.values d p l more fine.count

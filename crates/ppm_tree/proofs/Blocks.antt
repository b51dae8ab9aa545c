-- Blocks of statements: the row that a declared statement holds, and the list that the code sees.
use Rattle.std.proofs.Common.{◌≡◌, ℕ, Vec, Global, refl, ap, ap₂, ◌∙◌}
use Rattle.ppm_tree.specs.Tree.{Then, If, While, Split, Each, expression_of, statement_of, row_block, block_of}
use Rattle.ppm_tree.specs.declared.named.Named.{Named}
use Rattle.ppm_tree.specs.declared.tree.Expr.{Expr}
use Rattle.ppm_tree.specs.declared.tree.Stmt.{Stmt, Row_of-Stmt, end_of-Stmt, more_of-Stmt, items-the_row-Stmt, items_hidden-the_row-Stmt-0}
use Rattle.ppm_tree.specs.declared.tree.Stmt.TheVariants as variant
use Rattle.ppm_tree.specs.declared.tree.Stmt as stmt

-- a row is the block of its list
row_is : (n : _) (row : Row_of-Stmt n) → row_block row ≡ block_of (items-the_row-Stmt n row)
row_is n end_of-Stmt = refl
row_is n (more_of-Stmt s rest) = ap (Then (statement_of s)) (row_is _ rest)

-- the first row of a statement, and the second
abbrev first_row : Stmt → (n : _) × Row_of-Stmt n
first_row (variant.If' e n row m other) = (_, row)
first_row (variant.While' e n row) = (_, row)
first_row (variant.Split' line r e x y n row) = (_, row)
first_row (variant.Each' i x r n row) = (_, row)
first_row _ = (_, end_of-Stmt)

abbrev second_row : Stmt → (n : _) × Row_of-Stmt n
second_row (variant.If' e n row m other) = (_, other)
second_row _ = (_, end_of-Stmt)

-- each statement that holds blocks, by the lists of these
pub if_is : (e : Expr) (v w : Vec Stmt Global) → statement_of (stmt.If e v w) ≡ If (expression_of e) (block_of v.items) (block_of w.items)
if_is e v w =
    let row = first_row (stmt.If e v w) in
    let other = second_row (stmt.If e v w) in
    ap₂
    (If (expression_of e))
    (row_is row.0 row.1 ∙ ap block_of (items_hidden-the_row-Stmt-0 v))
    (row_is other.0 other.1 ∙ ap block_of (items_hidden-the_row-Stmt-0 w))

pub while_is : (e : Expr) (v : Vec Stmt Global) → statement_of (stmt.While e v) ≡ While (expression_of e) (block_of v.items)
while_is e v =
    let row = first_row (stmt.While e v) in
    ap (While (expression_of e)) (row_is row.0 row.1 ∙ ap block_of (items_hidden-the_row-Stmt-0 v))

pub split_is : (line : ℕ) (r : Named) (e : Expr) (x y : Named) (v : Vec Stmt Global)
    → statement_of (stmt.Split line r e x y v) ≡ Split line r (expression_of e) x y (block_of v.items)
split_is line r e x y v =
    let row = first_row (stmt.Split line r e x y v) in
    ap (Split line r (expression_of e) x y) (row_is row.0 row.1 ∙ ap block_of (items_hidden-the_row-Stmt-0 v))

pub each_is : (i x r : Named) (v : Vec Stmt Global) → statement_of (stmt.Each i x r v) ≡ Each i x r (block_of v.items)
each_is i x r v =
    let row = first_row (stmt.Each i x r v) in
    ap (Each i x r) (row_is row.0 row.1 ∙ ap block_of (items_hidden-the_row-Stmt-0 v))

-- a statement that is known to be one that holds blocks, by the lists of these
module _ (s : Stmt) where
  pub is_if : (e : Expr) (v w : Vec Stmt Global) → s ≡ stmt.If e v w
      → statement_of s ≡ If (expression_of e) (block_of v.items) (block_of w.items)
  is_if e v w is = rw is (if_is e v w)

  pub is_while : (e : Expr) (v : Vec Stmt Global) → s ≡ stmt.While e v → statement_of s ≡ While (expression_of e) (block_of v.items)
  is_while e v is = rw is (while_is e v)

  pub is_split : (line : ℕ) (r : Named) (e : Expr) (x y : Named) (v : Vec Stmt Global) → s ≡ stmt.Split line r e x y v
      → statement_of s ≡ Split line r (expression_of e) x y (block_of v.items)
  is_split line r e x y v is = rw is (split_is line r e x y v)

  pub is_each : (i x r : Named) (v : Vec Stmt Global) → s ≡ stmt.Each i x r v
      → statement_of s ≡ Each i x r (block_of v.items)
  is_each i x r v is = rw is (each_is i x r v)

-- Statements that hold vectors of statements, as trees, and the statements of a block one after another.
use Rattle.std.proofs.Common.{◌≡◌, ◌<◌, ◌≤◌, ◌+◌, ℕ, zero, suc, Vec, Global, rules, refl, sym, ap, subst, arith, List, [], ◌∷◌, length, drop, get_or}
use Rattle.ppm_tree.specs.declared.named.Named.{Named}
use Rattle.ppm_tree.specs.declared.tree.Expr.{Expr}
use Rattle.ppm_tree.specs.declared.tree.Stmt.{Stmt, Row_of-Stmt, end_of-Stmt, more_of-Stmt, items-the_row-Stmt}
use Rattle.ppm_tree.specs.declared.tree.Stmt as declared
use Rattle.ppm_tree.specs.declared.tree.Stmt.TheViews.{the_lemmas}
use Rattle.ppm_tree.specs.Tree.{expression_of, statement_of, row_block, block_of, Nil, Then, If, While, Split}
use Rattle.ppm_tree.specs.Tree as tree

-- a row of statements, as the list that it is
row_is : {n : _} (row : Row_of-Stmt n) → row_block row ≡ block_of (items-the_row-Stmt n row)
row_is end_of-Stmt = refl
row_is (more_of-Stmt s rest) = ap (Then (statement_of s)) (row_is rest)

pub if_is : (e : Expr) (v w : Vec Stmt Global) → statement_of (declared.If e v w) ≡ If (expression_of e) (block_of v.items) (block_of w.items)
if_is e v w = search (rules, the_lemmas, row_is)

pub while_is : (e : Expr) (v : Vec Stmt Global) → statement_of (declared.While e v) ≡ While (expression_of e) (block_of v.items)
while_is e v = search (rules, the_lemmas, row_is)

pub split_is : (line : ℕ) (r : Named) (e : Expr) (x y : Named) (v : Vec Stmt Global) → statement_of (declared.Split line r e x y v) ≡ Split line r (expression_of e) x y (block_of v.items)
split_is line r e x y v = search (rules, the_lemmas, row_is)

pub each_is : (i x r : Named) (v : Vec Stmt Global) → statement_of (declared.Each i x r v) ≡ tree.Each i x r (block_of v.items)
each_is i x r v = search (rules, the_lemmas, row_is)

-- the statements from a place on
pub next_is : (xs : List Stmt) (i : ℕ) (x : Stmt) → i < length xs → x ≡ get_or xs i x → block_of (drop i xs) ≡ Then (statement_of x) (block_of (drop (i + 1) xs))
next_is xs i x l e = subst (λ (j : ℕ). block_of (drop i xs) ≡ Then (statement_of x) (block_of (drop j xs))) (let j : suc i ≡ i + 1 = omega arith in j) (go xs i l e)
  where
    go : (xs : List Stmt) (i : ℕ) → i < length xs → x ≡ get_or xs i x → block_of (drop i xs) ≡ Then (statement_of x) (block_of (drop (suc i) xs))
    go [] i l e = absurd (omega (arith, l))
    go (y ∷ xs) zero l e = ap (λ (y : Stmt). Then (statement_of y) (block_of xs)) (sym e)
    go (y ∷ xs) (suc i) l e = go xs i (omega (arith, l)) e

pub none_left : (xs : List Stmt) (i : ℕ) → length xs ≤ i → block_of (drop i xs) ≡ Nil
none_left [] zero l = refl
none_left [] (suc i) l = refl
none_left (y ∷ xs) zero l = absurd (omega (arith, l))
none_left (y ∷ xs) (suc i) l = none_left xs i (omega (arith, l))

-- The statement that a declared one holds, by slices of its blocks.
use Rattle.std.proofs.Common.{◌≡◌, ap, ◌∙◌, sym, ℕ, List, Vec, Global}
use Rattle.ppm_tree.specs.declared.named.Named.{Named}
use Rattle.ppm_tree.specs.declared.tree.Expr.{Expr}
use Rattle.ppm_tree.specs.declared.tree.Stmt.{Stmt}
use Rattle.ppm_tree.specs.declared.tree.Stmt.TheVariants as stmt
use Rattle.ppm_tree.specs.Tree.{If, While, Split, Each, expression_of, statement_of, block_of}
use Rattle.ppm_tree.proofs.Blocks.{is_if, is_while, is_split, is_each}

module _ (s : Stmt) where
  pub if_is : (e : Expr) (block other : Vec Stmt Global) (xs ys : List Stmt) → s ≡ stmt.If e block other → xs ≡ block.items → ys ≡ other.items
      → statement_of s ≡ If (expression_of e) (block_of xs) (block_of ys)
  if_is e block other xs ys is p q =
      is_if s e block other is ∙ ap (λ zs. If (expression_of e) (block_of zs) (block_of other.items)) (sym p)
      ∙ ap (λ zs. If (expression_of e) (block_of xs) (block_of zs)) (sym q)

  pub while_is : (e : Expr) (block : Vec Stmt Global) (xs : List Stmt) → s ≡ stmt.While e block → xs ≡ block.items
      → statement_of s ≡ While (expression_of e) (block_of xs)
  while_is e block xs is p = is_while s e block is ∙ ap (λ zs. While (expression_of e) (block_of zs)) (sym p)

  pub split_is : (line : ℕ) (r : Named) (e : Expr) (x y : Named) (block : Vec Stmt Global) (xs : List Stmt) → s ≡ stmt.Split line r e x y block → xs ≡ block.items
      → statement_of s ≡ Split line r (expression_of e) x y (block_of xs)
  split_is line r e x y block xs is p =
      is_split s line r e x y block is ∙ ap (λ zs. Split line r (expression_of e) x y (block_of zs)) (sym p)

  pub each_is : (i x r : Named) (block : Vec Stmt Global) (xs : List Stmt) → s ≡ stmt.Each i x r block → xs ≡ block.items
      → statement_of s ≡ Each i x r (block_of xs)
  each_is i x r block xs is p = is_each s i x r block is ∙ ap (λ zs. Each i x r (block_of zs)) (sym p)

-- A block with no `each` keeps each bound.
use Rattle.std.proofs.Common.{◌≡◌, ◌≤◌, arith, refl, Bool, true, false, ◌||◌}
use Rattle.ppm_tree.specs.Tree.{Statement, Block, Nil, Then, Let, Assign, Put, If, While, Split}
use Rattle.ppm_tree.specs.Tree as tree
use Rattle.ppm_tree.specs.Parts.{statement_and_inner, statements_in}
use Rattle.ppm_cut_bounds.specs.declared.bound.Bound.{Bound}
use Rattle.ppm_cut_bounds.specs.Bounds.{KeepsAt, limit_of, count_of}
use Rattle.ppm_cut_bounds.specs.Sought.{is_or_has_each, has_each}
use Rattle.ppm_cut_bounds.proofs.Keeping.{all-append}

-- neither of two tests holds
neither : (a b : Bool) → (a || b) ≡ false → (a ≡ false) × (b ≡ false)
neither true b h = absurd (cc)
neither false b h = (refl, h)

mutual
  none_within : (b : Bound) (s : Statement) → is_or_has_each s ≡ false → KeepsAt b (statement_and_inner s)
  none_within b (Let x e) h = (omega arith, tt)
  none_within b (Assign x e) h = (omega arith, tt)
  none_within b (Put x i e) h = (omega arith, tt)
  none_within b (If e block other) h =
      let none = neither (has_each block) (has_each other) h in
      (omega arith, all-append (λ s. count_of b s ≤ limit_of b) (statements_in block) (statements_in other) (none_keeps b block none.0) (none_keeps b other none.1))
  none_within b (While e block) h = (omega arith, none_keeps b block h)
  none_within b (tree.Call s) h = (omega arith, tt)
  none_within b (tree.Fork s t) h = (omega arith, tt)
  none_within b (Split line r e x y block) h = (omega arith, none_keeps b block h)
  none_within b (tree.Each i x r block) h = absurd (cc)

  -- where a block has no `each`, nothing in it passes a bound
  pub none_keeps : (b : Bound) (block : Block) → has_each block ≡ false → KeepsAt b (statements_in block)
  none_keeps b Nil h = tt
  none_keeps b (Then s rest) h =
      let none = neither (is_or_has_each s) (has_each rest) h in
      all-append (λ s. count_of b s ≤ limit_of b) (statement_and_inner s) (statements_in rest) (none_within b s none.0) (none_keeps b rest none.1)

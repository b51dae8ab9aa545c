-- Whether a block has an `each`.
use Rattle.std.specs.Prelude.{Bool, true, false, ◌||◌}
use Rattle.ppm_tree.specs.Tree.{Statement, Block, Nil, Then}
use Rattle.ppm_tree.specs.Tree as tree

abbrev mutual
  -- whether a statement is an `each`, or has one in its blocks
  pub is_or_has_each : Statement → Bool
  is_or_has_each (tree.Each i x r block) = true
  is_or_has_each (tree.If e block other) = has_each block || has_each other
  is_or_has_each (tree.While e block) = has_each block
  is_or_has_each (tree.Split line r e x y block) = has_each block
  is_or_has_each s = false

  -- whether a block has an `each`, itself or in its blocks
  pub has_each : Block → Bool
  has_each Nil = false
  has_each (Then s rest) = is_or_has_each s || has_each rest

-- The numbers of capsules, and of the hidden procedures of each `each`: those of a statement come one after the other, in the order
-- of the text, and these functions say which number comes after.
use Rattle.std.specs.Prelude.{ℕ, suc}
use Rattle.ppm_tree.specs.Tree.{Statement, Block, Nil, Then}
use Rattle.ppm_tree.specs.Tree as tree

-- A block ends with a capsule of its own, whose number this is where the block's first capsule has the number `at`; a statement's
-- capsules end in front of this number. The block of an `each` is in the hidden procedure.
abbrev mutual
  pub behind : Statement → ℕ → ℕ
  behind (tree.Let x e) at = suc at
  behind (tree.Assign x e) at = suc (suc at)
  behind (tree.Put x index e) at = suc (suc at)
  behind (tree.If e holds other) at = suc (end_of other (suc (end_of holds (suc at))))
  behind (tree.While e block) at = suc (end_of block (suc at))
  behind (tree.Call s) at = suc at
  behind (tree.Fork s t) at = suc at
  behind (tree.Split line r e x y block) at = suc (end_of block (suc at))
  behind (tree.Each i x r block) at = suc at

  pub end_of : Block → ℕ → ℕ
  end_of Nil at = at
  end_of (Then s rest) at = end_of rest (behind s at)

-- the number after the hidden procedures of a statement and of a block, the first of which has the number h; that of an `each` comes
-- in front of those in its block
abbrev mutual
  pub hidden_behind : Statement → ℕ → ℕ
  hidden_behind (tree.If e holds other) h = hidden_behind_block other (hidden_behind_block holds h)
  hidden_behind (tree.While e block) h = hidden_behind_block block h
  hidden_behind (tree.Split line r e x y block) h = hidden_behind_block block h
  hidden_behind (tree.Each i x r block) h = hidden_behind_block block (suc h)
  hidden_behind s h = h

  pub hidden_behind_block : Block → ℕ → ℕ
  hidden_behind_block Nil h = h
  hidden_behind_block (Then s rest) h = hidden_behind_block rest (hidden_behind s h)

-- in the capsules of a hidden procedure that is entered at this number: where it forks, where it goes on after that, and its block
abbrev pub halving : ℕ → ℕ
halving entry = suc entry

abbrev pub halved : ℕ → ℕ
halved entry = suc (suc entry)

abbrev pub element_block : ℕ → ℕ
element_block entry = suc (suc (suc entry))

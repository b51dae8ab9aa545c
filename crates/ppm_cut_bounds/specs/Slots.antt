-- How many slots a procedure has, and the hidden procedure of each `each` in it.
use Rattle.std.specs.Prelude.{ℕ, ◌+◌, Bool, true, false, ◌||◌, length, max, if◌then◌else◌}
use Rattle.ppm_tree.specs.Tree.{Statement, Block, Nil, Then, Procedure}
use Rattle.ppm_tree.specs.Tree as tree
use Rattle.ppm_cut_bounds.specs.Names.{lets_of}

abbrev mutual
  -- the greatest number of names that a statement's blocks have in force at one point; the block of an `each` has its own procedure
  pub most_within : Statement → ℕ
  most_within (tree.If e block other) = max (most_in_force block) (most_in_force other)
  most_within (tree.While e block) = most_in_force block
  most_within (tree.Split line r e x y block) = 2 + most_in_force block
  most_within (tree.Let x e) = 0
  most_within (tree.Assign x e) = 0
  most_within (tree.Put x index e) = 0
  most_within (tree.Call s) = 0
  most_within (tree.Fork s t) = 0
  most_within (tree.Each i x r block) = 0

  -- the greatest number of names declared in a block that are in force at one point; its end is a point too
  pub most_in_force : Block → ℕ
  most_in_force Nil = 0
  most_in_force (Then s rest) = max (most_within s) (length (lets_of s) + most_in_force rest)

abbrev mutual
  -- whether a statement assigns to an element, itself or in its blocks; the block of an `each` has its own procedure
  pub puts : Statement → Bool
  puts (tree.Put x index e) = true
  puts (tree.If e block other) = has_put block || has_put other
  puts (tree.While e block) = has_put block
  puts (tree.Split line r e x y block) = has_put block
  puts (tree.Let x e) = false
  puts (tree.Assign x e) = false
  puts (tree.Call s) = false
  puts (tree.Fork s t) = false
  puts (tree.Each i x r block) = false

  -- whether a block assigns to an element
  pub has_put : Block → Bool
  has_put Nil = false
  has_put (Then s rest) = puts s || has_put rest

-- the slots for an index and a value, where a block assigns to an element
abbrev pub put_slots : Block → ℕ
put_slots block = if has_put block then 2 else 0

-- the slots of a procedure: its parameters, the names of its body, and two for assignments to elements
abbrev pub slots_of : Procedure → ℕ
slots_of p = length p.parameters + most_in_force p.body + put_slots p.body

-- The slots of the hidden procedure of an `each` with this block and so many names of outside: its parameters, which are
-- a part, a first index and these names; the names of the block, or the two halves of the part; two for elements.
abbrev pub hidden_slots : ℕ → Block → ℕ
hidden_slots caught block = 2 + caught + max 2 (most_in_force block) + put_slots block

-- How many slots the frames of a procedure have, in the code.
use Rattle.std.specs.Prelude.{ℕ, ◌+◌, Bool, true, false, ◌||◌, length, max, if◌then◌else◌}
use Rattle.ppm_tree.specs.Tree.{Statement, Block, Nil, Then, Procedure}
use Rattle.ppm_tree.specs.Tree as tree
use Rattle.ppm_cut_bounds.specs.Slots.{most_in_force, has_put}

abbrev mutual
  -- whether a statement assigns to a local by `x = e;`, itself or in its blocks; the block of an `each` has its own procedure
  pub assigns : Statement → Bool
  assigns (tree.Assign x e) = true
  assigns (tree.If e block other) = has_assignment block || has_assignment other
  assigns (tree.While e block) = has_assignment block
  assigns (tree.Split line r e x y block) = has_assignment block
  assigns s = false

  -- whether a block does
  pub has_assignment : Block → Bool
  has_assignment Nil = false
  has_assignment (Then s rest) = assigns s || has_assignment rest

-- the slots after all names: an index and a value, or a value alone
abbrev pub spare_slots : Block → ℕ
spare_slots block = if has_put block then 2 else if has_assignment block then 1 else 0

-- the slots of a procedure's names: its parameters, and the most of its body that are in force at one point
abbrev pub named_slots : Procedure → ℕ
named_slots p = length p.parameters + most_in_force p.body

-- all its slots
abbrev pub procedure_slots : Procedure → ℕ
procedure_slots p = named_slots p + spare_slots p.body

-- the named slots of the hidden procedure of an `each` with this block, and with so many names of outside: its part, its first index, these
-- names, and those of its block, or as many as two halves
abbrev pub hidden_named_slots : ℕ → Block → ℕ
hidden_named_slots names block = 2 + names + max 2 (most_in_force block)

abbrev pub hidden_slots : ℕ → Block → ℕ
hidden_slots names block = hidden_named_slots names block + spare_slots block

-- the words of a frame with so many slots
abbrev pub frame_words : ℕ → ℕ
frame_words slots = 6 + slots

-- and of a fork block with two frames
abbrev pub fork_words : (left right : ℕ) → ℕ
fork_words left right = 5 + frame_words left + frame_words right

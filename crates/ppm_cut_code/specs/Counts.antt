-- How many capsules each procedure of the code has, by its statements.
use Rattle.std.specs.Prelude.{ℕ, suc, ◌+◌, ◌*◌, ◌==◌, List, length}
use Rattle.std.specs.List.{filter}
use Rattle.ppm_code.specs.declared.code.Capsule.{Capsule}
use Rattle.ppm_tree.specs.Tree.{Statement, Block, Nil, Then}
use Rattle.ppm_tree.specs.Tree as tree
use Rattle.ppm_tree.specs.Parts.{gives_of}
use Rattle.ppm_cut_code.specs.Routines.{Routine, OfText, Hidden}

-- a statement and those in its blocks, as many as are in its own procedure: an `each` is one, and its block is in the hidden procedure
abbrev mutual
  pub own_statements : Statement → ℕ
  own_statements (tree.If e holds other) = suc (block_statements holds + block_statements other)
  own_statements (tree.While e block) = suc (block_statements block)
  own_statements (tree.Split line r e x y block) = suc (block_statements block)
  own_statements s = 1

  -- those of a block
  pub block_statements : Block → ℕ
  block_statements Nil = 0
  block_statements (Then s rest) = own_statements s + block_statements rest

-- four capsules for each statement, what is given counted as one, and two more; four further ones for a hidden procedure itself
abbrev pub most_capsules : Routine → ℕ
most_capsules (OfText p h) = 4 * (block_statements p.body + length (gives_of p.give)) + 2
most_capsules (Hidden s) = 4 * block_statements s.block + 4 + 2

-- how many of the capsules are of the procedure
abbrev pub capsules_among : (procedure : ℕ) → List Capsule → ℕ
capsules_among procedure capsules = length (filter (λ c. c.procedure == procedure) capsules)

-- How many capsules a program's code has at most.
use Rattle.std.specs.Prelude.{ℕ, ◌+◌, ◌*◌, length, map}
use Rattle.std.specs.List.{sum}
use Rattle.ppm_tree.specs.Tree.{Statement, Procedure, ProgramTree}
use Rattle.ppm_tree.specs.Tree as tree
use Rattle.ppm_tree.specs.Parts.{statements_in, gives_of, eaches_of}
use Rattle.ppm_tree.specs.Limits.{procedures_in}

-- an `each` counts as five statements: itself, and four of its hidden procedure
abbrev pub weight : Statement → ℕ
weight (tree.Each i x r block) = 5
weight (tree.Let x e) = 1
weight (tree.Assign x e) = 1
weight (tree.Put x index e) = 1
weight (tree.If e block other) = 1
weight (tree.While e block) = 1
weight (tree.Call s) = 1
weight (tree.Fork s t) = 1
weight (tree.Split line r e x y block) = 1

-- the statements of a procedure; what it gives is one too
abbrev pub statement_count : Procedure → ℕ
statement_count p = sum (map weight (statements_in p.body)) + length (gives_of p.give)

-- four capsules for each statement, and two for each procedure, hidden ones too
abbrev pub capsules_of : Procedure → ℕ
capsules_of p = 4 * statement_count p + 2 * procedures_in p

-- the capsules of a program, at most
abbrev pub capsule_bound : ProgramTree → ℕ
capsule_bound t = sum (map capsules_of t.procedures)

-- the capsules for a statement, with those of the hidden procedure of an `each`; those in its blocks count for themselves
abbrev pub capsules_at : Statement → ℕ
capsules_at s = 4 * weight s + 2 * eaches_of s

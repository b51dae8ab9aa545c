use Rattle.std.proofs.Common.{[]}
use Rattle.ppm_tree.specs.Tree.{expression_of, tree_of}
use Rattle.ppm_regions.proofs.MainLemmas.{gives_wrong}
use Rattle.ppm_regions.proofs.program.of_give.Goals as goal

-- `main` gives a value
pub returns-in-Some : goal.returns-in-Some
returns-in-Some c =
    rw c.in-Some.is (gives_wrong (tree_of c.args.tree.now) [] (record { line = c.in-Some.give.line; value = expression_of c.in-Some.give.value }))

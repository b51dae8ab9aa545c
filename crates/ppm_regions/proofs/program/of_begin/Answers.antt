use Rattle.std.proofs.Common.{◌≡◌, [], map, sym, ap}
use Rattle.ppm_tree.specs.Tree.{procedure_of, tree_of}
use Rattle.ppm_regions.proofs.MainLemmas.{begins_nowhere, begins_somewhere}
use Rattle.ppm_regions.proofs.program.of_begin.Goals as goal

-- some procedure is `main`
pub returns-then-has_main : goal.returns-then-has_main
returns-then-has_main c =
    begins_somewhere (tree_of c.args.tree.now) [] c.as_slice.result.now (ap (map procedure_of) (sym c.as_slice.ensures)) (c.has_main.ensures.0 (cc))

-- none is
pub returns : goal.returns
returns c =
    begins_nowhere (tree_of c.args.tree.now) [] c.as_slice.result.now (ap (map procedure_of) (sym c.as_slice.ensures))
    (λ one. let told = c.has_main.ensures.1 one in absurd (cc))

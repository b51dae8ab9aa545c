use Rattle.std.proofs.Common.{[], ◌∷◌, ◌++◌, map}
use Rattle.std.specs.List.{flat_map}
use Rattle.ppm_tree.specs.Tree.{tree_of}
use Rattle.ppm_regions.specs.Uses.{Begins, Fills, uses_of_main}
use Rattle.ppm_regions.proofs.Least.{least_uses}
use Rattle.ppm_regions.proofs.program.outside.Goals as goal

pub returns : goal.returns
returns c =
    let t = tree_of c.args.tree.now in
    rw (c.earlier.ensures, c.earlier-main.ensures)
    (least_uses t [] (Begins ∷ flat_map uses_of_main t.procedures) (map Fills t.inputs) _ _
    (least_uses t [] (Begins ∷ []) (flat_map uses_of_main t.procedures) _ _ c.of_begin.ensures c.of_mains.ensures) c.of_inputs.ensures)

use Rattle.ppm_tree.specs.Tree.{tree_of}
use Rattle.ppm_regions.specs.Kept.{seen}
use Rattle.ppm_regions.proofs.Arguments.{in_side}
use Rattle.ppm_regions.proofs.calling.in_side.Goals as goal

pub returns : goal.returns
returns c =
    rw (c.earlier-2.ensures, c.earlier.ensures)
    (in_side (tree_of c.args.procedures.now) (seen c.args.scope.now) c.args.side.now c.parameters-parameters.result.now c.as_slice-arguments.result.now _ _ _
    c.parameters-parameters.ensures c.as_slice-arguments.ensures c.of_target-stored.ensures (c.of_call-called.ensures (seen c.args.scope.now))
    (c.in_arguments-inside.ensures (tree_of c.args.procedures.now)))

use Rattle.std.proofs.Common.{[], ◌∷◌, map}
use Rattle.ppm_tree.specs.Tree.{tree_of}
use Rattle.ppm_regions.specs.Uses.{MainTakes, sites_at}
use Rattle.ppm_regions.proofs.Loops.{loop_step, sites_more}
use Rattle.ppm_regions.proofs.program.of_parameters.Goals as goal

-- the parameters so far and one more
pub loop-parameter-preserved : goal.loop-parameter-preserved
loop-parameter-preserved c =
    rw c.earlier-found.ensures
    (loop_step (tree_of c.args.tree.now) (λ xs. sites_at [] (map MainTakes xs)) (λ xs x. sites_at [] (MainTakes x ∷ [])) (sites_more MainTakes [])
    c.args.parameters.now c.loop-parameter.parameter-index c.parameter-item.result _ _ c.loop-parameter-test.true c.parameter-item.is c.loop-parameter.invariant
    c.of_parameter.ensures)

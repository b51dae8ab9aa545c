use Rattle.std.proofs.Common.{[], ◌∷◌, map, ap}
use Rattle.ppm_tree.specs.Tree.{tree_of}
use Rattle.ppm_regions.specs.Uses.{Fills, sites_at}
use Rattle.ppm_regions.proofs.Loops.{loop_step, sites_more}
use Rattle.ppm_regions.proofs.program.of_inputs.Goals as goal

-- the inputs so far and one more
pub loop-input-preserved : goal.loop-input-preserved
loop-input-preserved c =
    rw c.earlier-found.ensures
    (loop_step (tree_of c.args.tree.now) (λ xs. sites_at [] (map Fills xs)) (λ xs x. sites_at [] (Fills x ∷ [])) (sites_more Fills [])
    c.as_slice-input-items.result.now c.loop-input.input-index c.input-item.result _ _ c.loop-input-test.true c.input-item.is c.loop-input.invariant c.of_input.ensures)

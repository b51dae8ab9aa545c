use Rattle.std.proofs.Common.{[], map}
use Rattle.std.specs.List.{flat_map}
use Rattle.ppm_tree.specs.Tree.{procedure_of, tree_of}
use Rattle.ppm_regions.specs.Uses.{uses_of_main, sites_at}
use Rattle.ppm_regions.proofs.Loops.{loop_step, flat_sites_more}
use Rattle.ppm_regions.proofs.program.of_mains.Goals as goal

-- the procedures so far and one more
pub loop-procedure-preserved : goal.loop-procedure-preserved
loop-procedure-preserved c =
    rw c.earlier-found.ensures
    (loop_step (tree_of c.args.tree.now) (λ xs. sites_at [] (flat_map uses_of_main (map procedure_of xs))) (λ xs x. sites_at [] (uses_of_main (procedure_of x)))
    (flat_sites_more procedure_of uses_of_main []) c.as_slice-procedure-items.result.now c.loop-procedure.procedure-index c.procedure-item.result _ _
    c.loop-procedure-test.true c.procedure-item.is c.loop-procedure.invariant c.of_main.ensures)

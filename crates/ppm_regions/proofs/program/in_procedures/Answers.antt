use Rattle.std.proofs.Common.{map}
use Rattle.std.specs.List.{flat_map}
use Rattle.ppm_tree.specs.Tree.{procedure_of, tree_of}
use Rattle.ppm_regions.specs.Uses.{sites_of_procedure}
use Rattle.ppm_regions.proofs.Loops.{loop_step, flat_more}
use Rattle.ppm_regions.proofs.program.in_procedures.Goals as goal

-- the procedures so far and one more
pub loop-procedure-preserved : goal.loop-procedure-preserved
loop-procedure-preserved c =
    let t = tree_of c.args.tree.now in
    rw c.earlier-found.ensures
    (loop_step t (λ xs. flat_map (sites_of_procedure t) (map procedure_of xs)) (λ xs x. sites_of_procedure t (procedure_of x))
    (flat_more procedure_of (sites_of_procedure t)) c.as_slice-procedure-items.result.now c.loop-procedure.procedure-index c.procedure-item.result _ _
    c.loop-procedure-test.true c.procedure-item.is c.loop-procedure.invariant (rw c.in_ok-procedures.ensures at c.in_ok-inside.ensures))

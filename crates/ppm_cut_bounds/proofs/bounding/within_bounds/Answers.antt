use Rattle.std.proofs.Common.{length, arith, ap}
use Rattle.ppm_cut_bounds.proofs.First.{few_procedures}
use Rattle.ppm_cut_bounds.proofs.bounding.within_bounds.Goals as goal

-- a program has no more procedures than its limit
pub tree_within_bounds-requires : goal.tree_within_bounds-requires
tree_within_bounds-requires c =
    let few = few_procedures c.args.program.now.procedures in
    record { few = omega (arith, few, c.tree.ensures.limits.procedure_count, ap (λ t. length t.procedures) c.tree.ensures.value) }

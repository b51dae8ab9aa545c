use Rattle.std.proofs.Common.{◌+◌, ◌*◌, length, ap, arith}
use Rattle.ppm_tree.specs.Tree.{block_of, give_of, procedure_of}
use Rattle.ppm_tree.specs.Parts.{statements_in, gives_of}
use Rattle.ppm_cut_bounds.specs.Capsules.{capsules_of}
use Rattle.ppm_cut_bounds.proofs.Sums.{need, need_of_procedure, left_more}
use Rattle.ppm_cut_bounds.proofs.capsules.left_by_procedure.Goals as goal

-- two for the procedure, four where it gives, and those of its body
pub returns : goal.returns
returns c =
    let n = need_of_procedure (procedure_of c.args.procedure.now) in
    let b = ap (λ xs. need (statements_in (block_of xs))) c.deref.ensures.value in
    left_more c.left_by_block.result c.in_ok-given.given c.args.left (need (statements_in (block_of c.deref.result.now)))
    (2 + 4 * length (gives_of (give_of c.args.procedure.now.give))) (capsules_of (procedure_of c.args.procedure.now))
    (omega (arith, c.in_ok-begun.ensures, c.in_ok-given.ensures, c.needed_to_give.ensures)) (omega (arith, n, b)) c.left_by_block.ensures

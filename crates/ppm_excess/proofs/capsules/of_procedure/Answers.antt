use Rattle.std.proofs.Common.{◌≡◌, ap, subst, arith}
use Rattle.std.specs.Prelude.{IfOk}
use Rattle.ppm_tree.specs.Tree.{block_of, procedure_of}
use Rattle.ppm_tree.specs.Parts.{statements_in}
use Rattle.ppm_cut_bounds.proofs.Sums.{need, need_of_procedure}
use Rattle.ppm_excess.proofs.capsules.of_procedure.Goals as goal

-- those of the body, two for the procedure, and four where it gives
pub returns : goal.returns
returns c =
    let n = need_of_procedure (procedure_of c.args.procedure.now) in
    let b = ap (λ xs. need (statements_in (block_of xs))) c.deref.ensures.value in
    subst (λ m. IfOk c.plus-2.result (λ k. k ≡ m))
    (omega (arith, n, b, c.in_ok-body.ensures, c.in_ok-begun.ensures, c.of_give.ensures)) c.plus-2.ensures

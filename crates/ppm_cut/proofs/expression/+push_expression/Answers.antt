use Rattle.std.proofs.Common.{◌+◌, arith, sym, ap, ◌∙◌}
use Rattle.std.proofs.lemmas.Result.{on_ok_weaker}
use Rattle.ppm_tree.specs.Tree.{Minus, expression_of}
use Rattle.ppm_cut.proofs.Growing.{minus_grown}
use Rattle.ppm_cut.proofs.expression.+push_expression.Goals as goal

pub returns-in_ok-push_expression-in-Minus : goal.returns-in_ok-push_expression-in-Minus
returns-in_ok-push_expression-in-Minus t c =
    let is = ap expression_of c.in-Minus.is in
    on_ok_weaker c.push_difference.result (λ n.
    minus_grown c.args.layout.now (expression_of c.args.expression.now) (expression_of c.deref-in-Minus.result.now) c.in-Minus.line c.args.to c.args.at (c.args.to + 1) (c.args.at + 1)
    (is ∙ ap (λ v. Minus c.in-Minus.line (expression_of v)) (sym c.deref-in-Minus.ensures)) (omega arith) (omega arith) c.in_ok-push_const-in-Minus.ensures c.in_ok-push_expression-in-Minus.ensures n) c.push_difference.ensures

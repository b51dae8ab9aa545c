use Rattle.std.proofs.Common.{◌≡◌, ◌+◌, suc, arith}
use Rattle.ppm_code.specs.declared.instr.Instr.TheVariants as instr
use Rattle.ppm_tree.specs.Tree.{expression_of}
use Rattle.ppm_cut_code.specs.Layout.{register}
use Rattle.ppm_cut_code.specs.Expressions.{expression_code}
use Rattle.ppm_cut.proofs.Growing.{then, made, at_number, at_place}
use Rattle.ppm_cut.proofs.simple.element_capsule.Goals as goal

pub returns : goal.returns
returns c =
    let next : c.args.maker.now.home.spare + 1 ≡ suc c.args.maker.now.home.spare = omega arith in
    made c.new-body.ensures.items (then c.in_ok-push_expression.ensures
    (then (at_place (expression_code c.args.layout.now (expression_of c.args.value.now) 1) _ _ c.size_of.ensures c.in_ok-push_expression-2.ensures) (then c.in_ok-push_store.ensures
    (then (at_number (λ n. instr.StoreCur n (register 1)) _ _ next c.in_ok-push_store-2.ensures) c.in_ok-push_onward.ensures))))

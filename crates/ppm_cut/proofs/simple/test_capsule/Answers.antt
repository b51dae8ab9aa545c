use Rattle.std.proofs.Common.{◌≡◌, ◌+◌, suc, arith}
use Rattle.ppm_code.specs.declared.instr.Instr.TheVariants as instr
use Rattle.ppm_tree.specs.Tree.{expression_of}
use Rattle.ppm_cut_code.specs.Layout.{register}
use Rattle.ppm_cut_code.specs.Expressions.{size_of}
use Rattle.ppm_cut.proofs.Growing.{then, made, at_number}
use Rattle.ppm_cut.proofs.simple.test_capsule.Goals as goal

pub returns : goal.returns
returns c =
    let size = c.size_of.ensures in
    let next : c.size_of.result + 2 ≡ suc (suc (size_of (expression_of c.args.test.now))) = omega (arith, size) in
    made c.new-body.ensures.items (then c.in_ok-push_expression.ensures
    (then (at_number (λ n. instr.BranchZero (register 0) n) _ _ next c.in_ok-push_branch_zero.ensures)
    (then c.in_ok-push_onward.ensures c.in_ok-push_onward-2.ensures)))

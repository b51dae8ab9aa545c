use Rattle.std.proofs.Common.{◌≡◌, arith, length, ap}
use Rattle.ppm_tree.specs.Tree.{procedure_of, tree_of}
use Rattle.ppm_regions.proofs.CallLemmas.{calls_unknown, calls_wrong}
use Rattle.ppm_regions.proofs.calling.of_call.Goals as goal

-- more or fewer parameters
pub returns-then-as_slice-arguments : goal.returns-then-as_slice-arguments
returns-then-as_slice-arguments c = λ s.
    let lengths = ap length c.as_slice.ensures in
    calls_wrong (tree_of c.args.procedures.now) s c.args.name.now c.args.arguments (procedure_of c.in-Some.procedure.now) (c.in-Some.ensures)
    (λ e. c.if-as_slice-arguments.true (omega (arith, e, lengths)))

-- no such procedure
pub returns-in-None : goal.returns-in-None
returns-in-None c = λ s. calls_unknown (tree_of c.args.procedures.now) s c.args.name.now c.args.arguments (c.in-None.ensures)

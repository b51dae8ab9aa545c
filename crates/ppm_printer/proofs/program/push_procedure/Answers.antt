use Rattle.std.proofs.Common.{ap}
use Rattle.ppm_tree.specs.Tree.{block_of, procedure_of}
use Rattle.ppm_printer.proofs.Appending.{procedure_text}
use Rattle.ppm_printer.proofs.program.push_procedure.Goals as goal

pub returns : goal.returns
returns c =
    procedure_text (procedure_of c.args.procedure.now) c.as_slice.result.now (block_of c.deref.result.now) c.args.text.now.items
    c.push_keyword.new.text.items c.push_name.new.text.items c.push_sign.new.text.items c.push_parameters.new.text.items
    c.push_sign-2.new.text.items c.push_body.new.text.items c.as_slice.ensures (ap block_of c.deref.ensures.value) c.in_ok-push_keyword.ensures
    c.in_ok-push_name.ensures c.in_ok-push_sign.ensures c.in_ok-push_parameters.ensures c.in_ok-push_sign-2.ensures c.in_ok-push_body.ensures

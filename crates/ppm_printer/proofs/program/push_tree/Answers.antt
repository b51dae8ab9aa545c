use Rattle.ppm_printer.proofs.Appending.{tree_text}
use Rattle.ppm_printer.proofs.program.push_tree.Goals as goal

pub returns : goal.returns
returns c =
    tree_text c.args.tree.now c.as_slice.result.now c.as_slice-2.result.now c.as_slice-3.result.now c.args.text.now.items
    c.push_arrays.new.text.items c.push_procedures.new.text.items c.push_inputs.new.text.items c.as_slice.ensures c.as_slice-2.ensures
    c.as_slice-3.ensures c.in_ok-push_arrays.ensures c.in_ok-push_procedures.ensures c.in_ok-push_inputs.ensures

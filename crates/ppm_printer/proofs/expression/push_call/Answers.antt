use Rattle.ppm_printer.proofs.Appending.{call_text}
use Rattle.ppm_printer.proofs.expression.push_call.Goals as goal

pub returns : goal.returns
returns c =
    call_text c.args.side.now c.as_slice.result.now c.args.text.now.items c.push_name.new.text.items c.push_sign.new.text.items
    c.push_arguments.new.text.items c.push_sign-2.new.text.items c.as_slice.ensures c.in_ok-push_name.ensures c.in_ok-push_sign.ensures
    c.in_ok-push_arguments.ensures c.in_ok-push_sign-2.ensures

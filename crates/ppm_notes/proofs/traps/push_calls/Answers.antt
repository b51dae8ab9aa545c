use Rattle.ppm_notes.proofs.CallLemmas.{calls_told}
use Rattle.ppm_notes.proofs.traps.push_calls.Goals as goal

pub returns : goal.returns
returns c =
    calls_told c.push_word-2.result c.args.notes.now.items c.push_word.new.text.items c.push_number.new.text.items c.push_innermost.new.notes.items
    c.push_word-2.new.text.items c.args.calls c.args.line c.in_ok-push_word.ensures c.in_ok-push_number.ensures.ok c.in_ok-push_innermost.ensures c.push_word-2.ensures

use Rattle.std.proofs.Common.{◌<◌, arith}
use Rattle.ppm_notes.proofs.CallLemmas.{innermost_told}
use Rattle.ppm_notes.proofs.traps.push_innermost.Goals as goal

pub returns : goal.returns
returns c =
    innermost_told c.args.notes.now.items c.push_word.new.text.items c.push_number.new.text.items c.args.calls c.args.line c.from.result
    (let h = c.if-calls-eq0.false in omega (arith, h)) c.in_ok-push_word.ensures c.from.ensures c.in_ok-push_number.ensures.ok

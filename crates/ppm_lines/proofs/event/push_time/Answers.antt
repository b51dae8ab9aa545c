use Rattle.std.proofs.Common.{rules, codes, decimal}
use Rattle.ppm_lines.proofs.TextLemmas.{four}
use Rattle.ppm_lines.proofs.event.push_time.Goals as goal

-- part by part
pub returns : goal.returns
returns c =
    four (codes ",\"pid\":0,\"tid\":") (decimal c.args.processor) (codes ",\"ts\":") (decimal c.args.time) c.args.text.now.items
    c.push_word.new.text.items c.push_number.new.text.items c.push_word-2.new.text.items c.push_number-2.new.text.items c.in_ok-push_word.ensures (search
    rules) c.in_ok-push_word-2.ensures (search rules)

use Rattle.std.proofs.Common.{rules, codes, decimal}
use Rattle.ppm_lines.proofs.TextLemmas.{five}
use Rattle.ppm_lines.proofs.json.push_thread.Goals as goal

-- part by part
pub returns : goal.returns
returns c =
    five (codes ",\n{\"ph\":\"M\",\"name\":\"thread_name\",\"pid\":0,\"tid\":") (decimal c.args.processor) (codes ",\"args\":{\"name\":\"processor ")
    (decimal c.args.processor) (codes "\"}}") c.args.text.now.items c.push_word.new.text.items c.push_number.new.text.items c.push_word-2.new.text.items
    c.push_number-2.new.text.items c.push_word-3.new.text.items c.in_ok-push_word.ensures (search rules) c.in_ok-push_word-2.ensures (search rules)
    c.in_ok-push_word-3.ensures

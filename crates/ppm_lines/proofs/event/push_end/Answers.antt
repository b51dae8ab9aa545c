use Rattle.std.proofs.Common.{rules, codes, ◌+◌}
use Rattle.ppm_lines.specs.Events.{time_text}
use Rattle.ppm_lines.proofs.TextLemmas.{three}
use Rattle.ppm_lines.proofs.event.push_end.Goals as goal

-- part by part
pub returns : goal.returns
returns c =
    three (codes ",\n{\"ph\":\"E\"") (time_text c.args.moment.processor (c.args.moment.number + 1)) (codes "}") c.args.text.now.items
    c.push_word.new.text.items c.push_time.new.text.items c.push_word-2.new.text.items c.in_ok-push_word.ensures (search rules)
    c.in_ok-push_word-2.ensures

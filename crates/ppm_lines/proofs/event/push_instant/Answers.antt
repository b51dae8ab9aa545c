use Rattle.std.proofs.Common.{rules, codes, decimal}
use Rattle.ppm_lines.specs.Events.{time_text}
use Rattle.ppm_lines.proofs.TextLemmas.{seven}
use Rattle.ppm_lines.proofs.event.push_instant.Goals as goal

-- part by part
pub returns : goal.returns
returns c =
    seven (codes ",\n{\"ph\":\"i\",\"s\":\"t\",\"cat\":\"mark\",\"name\":\"") (c.args.name.now) (codes "\"") (time_text c.args.moment.processor
    c.args.moment.number) (codes ",\"args\":{\"place\":") (decimal c.args.moment.place) (codes "}}") c.args.text.now.items c.push_word.new.text.items
    c.push_word-2.new.text.items c.push_word-3.new.text.items c.push_time.new.text.items c.push_word-4.new.text.items c.push_number.new.text.items
    c.push_word-5.new.text.items c.in_ok-push_word.ensures (search rules) c.in_ok-push_word-3.ensures (search rules) c.in_ok-push_word-4.ensures (search
    rules) c.in_ok-push_word-5.ensures

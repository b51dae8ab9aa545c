use Rattle.std.proofs.Common.{rules, codes, decimal}
use Rattle.ppm_lines.specs.Events.{slice_name, time_text}
use Rattle.ppm_lines.specs.Doing.{of_row}
use Rattle.ppm_naming.specs.Values.{restart_name}
use Rattle.ppm_lines.proofs.TextLemmas.{eleven}
use Rattle.ppm_lines.proofs.event.push_begin.Goals as goal

-- part by part
pub returns : goal.returns
returns c =
    eleven (codes ",\n{\"ph\":\"B\",\"cat\":\"") (restart_name c.args.kind) (codes "\",\"name\":\"") (slice_name c.args.scene.now c.args.kind) (codes
    "\"") (time_text c.args.moment.processor c.args.moment.number) (codes ",\"args\":{\"of\":\"") (of_row c.args.scene.now c.args.kind) (codes
    "\",\"place\":") (decimal c.args.moment.place) (codes "}}") c.args.text.now.items c.push_word.new.text.items c.push_word-2.new.text.items
    c.push_word-3.new.text.items c.push_slice_name.new.text.items c.push_word-4.new.text.items c.push_time.new.text.items c.push_word-5.new.text.items
    c.push_of_row.new.text.items c.push_word-6.new.text.items c.push_number.new.text.items c.push_word-7.new.text.items c.in_ok-push_word.ensures (search
    rules) c.in_ok-push_word-3.ensures c.in_ok-push_slice_name.ensures c.in_ok-push_word-4.ensures (search rules) c.in_ok-push_word-5.ensures
    c.in_ok-push_of_row.ensures c.in_ok-push_word-6.ensures (search rules) c.in_ok-push_word-7.ensures

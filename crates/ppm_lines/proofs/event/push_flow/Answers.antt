use Rattle.std.proofs.Common.{rules, codes, decimal}
use Rattle.ppm_lines.specs.Events.{time_text}
use Rattle.ppm_lines.specs.Flows.{flow_phase, flow_name, flow_id}
use Rattle.ppm_lines.proofs.TextLemmas.{ten}
use Rattle.ppm_lines.proofs.event.push_flow.Goals as goal

-- part by part
pub returns : goal.returns
returns c =
    ten (codes ",\n{\"ph\":\"") (flow_phase c.args.flow) (codes "\",\"cat\":\"") (flow_name c.args.flow) (codes "\",\"name\":\"") (flow_name c.args.flow)
    (codes "\",\"id\":") (decimal (flow_id c.args.flow)) (time_text c.args.moment.processor c.args.moment.number) (codes "}") c.args.text.now.items
    c.push_word.new.text.items c.push_word-2.new.text.items c.push_word-3.new.text.items c.push_word-4.new.text.items c.push_word-5.new.text.items
    c.push_word-6.new.text.items c.push_word-7.new.text.items c.push_number.new.text.items c.push_time.new.text.items c.push_word-8.new.text.items
    c.in_ok-push_word.ensures (search rules) c.in_ok-push_word-3.ensures (search rules) c.in_ok-push_word-5.ensures (search rules)
    c.in_ok-push_word-7.ensures (search rules) (search rules) c.in_ok-push_word-8.ensures

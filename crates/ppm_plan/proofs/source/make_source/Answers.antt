use Rattle.std.proofs.Common.{rules, ap, ◌++◌, ◌∙◌, ◌-◌, codes, decimal}
use Rattle.ppm_plan.specs.Sources.{value_at, values_from, procedures_text}
use Rattle.ppm_plan.proofs.SourceLemmas.{seven_parts}
use Rattle.ppm_plan.proofs.source.make_source.Goals as goal

-- part by part
pub returns : goal.returns
returns c =
    seven_parts (codes "array a[") (decimal c.args.size) (codes "];\ninput a = ") (decimal (value_at c.args.seed 0))
    (values_from c.args.seed 1 (c.args.size - 1)) (codes ";\n") procedures_text
    c.new-text.result.items c.extend_from_slice.new.self.items c.push_number.new.text.items c.extend_from_slice-2.new.self.items
    c.push_number-2.new.text.items c.push_values.new.text.items c.extend_from_slice-3.new.self.items c.extend_from_slice-4.new.self.items
    (search rules) (search rules) (search rules) (search rules) (search rules) (search rules) (search rules) (c.in_ok-extend_from_slice-4.ensures.items ∙ ap (λ l. c.extend_from_slice-3.new.self.items ++ l) c.as_bytes-4.ensures.value)

use Rattle.std.proofs.Common.{rules, arith, ◌-◌}
use Rattle.ppm_plan.proofs.SourceLemmas.{one_value}
use Rattle.ppm_plan.proofs.source.push_values.Goals as goal

-- one value more
pub loop-left-preserved : goal.loop-left-preserved
loop-left-preserved c = (
  one_value c.args.seed c.loop-left.index c.loop-left.left (c.loop-left.left - 1) c.loop-left.text.items
      c.extend_from_slice.new.self.items c.push_number.new.text.items _
      (omega (arith, c.loop-left-test.true)) (search rules) (search rules) c.loop-left.invariant.0,
  omega (arith, c.loop-left.invariant.1, c.loop-left-test.true),
)

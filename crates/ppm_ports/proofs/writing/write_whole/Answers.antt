use Rattle.std.proofs.Common.{arith, ◌∙◌}
use Rattle.ppm_ports.proofs.WholeLemmas.{Appends-take}
use Rattle.ppm_ports.proofs.writing.write_whole.Goals as goal

-- the next piece stands after the front
pub loop-at-preserved : goal.loop-at-preserved
loop-at-preserved g c = record {
  within = omega (arith, c.in_ok-at.ensures.bound);
  front = Appends-take _ _ _ _ _ _ c.loop-at.invariant.front c.in_ok-at.ensures.bytes;
  quiet = c.in_ok-at.ensures.cause.quiet ∙ c.loop-at.invariant.quiet;
}

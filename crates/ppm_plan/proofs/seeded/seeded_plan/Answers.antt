use Rattle.std.proofs.Common.{arith}
use Rattle.ppm_plan.proofs.DrawLemmas.{all_spare_zero}
use Rattle.ppm_plan.proofs.seeded.seeded_plan.Goals as goal

-- processor 0 is spared
pub with_keeper-requires-clause-kept : goal.with_keeper-requires-clause-kept
with_keeper-requires-clause-kept c = record {
  spared = rw c.in_ok-items.ensures (all_spare_zero c.args.processors c.args.count c.seed_from_u64-words.result);
  least = λ n h. absurd (omega (arith, h));
}

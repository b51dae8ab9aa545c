use Rattle.std.proofs.Common.{rules, of_calls, nat_le}
use Rattle.std.proofs.lemmas.Fn.{always_returns_same}
use Rattle.std.proofs.lemmas.List.Sorted.{IsPartitionedBy-leb}
use Rattle.ppm_races.specs.declared.stamps.Mark.{Mark}
use Rattle.ppm_races.proofs.ForkLemmas.{starts_rise}
use Rattle.ppm_races.proofs.stamps.count_begun.Goals as goal

-- the starts do not fall
pub returns-clause-point : goal.returns-clause-point
returns-clause-point c =
    c.partition_point.ensures.partitioned (λ m. nat_le m.start c.args.stamp) (always_returns_same _ _ _ (λ a r f k. search (rules, of_calls)))
    (IsPartitionedBy-leb (λ (m : Mark). m.start) c.args.marks.now c.args.stamp (starts_rise c.args.marks.now c.requires.sorted))

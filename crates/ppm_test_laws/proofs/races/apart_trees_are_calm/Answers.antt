use Rattle.ppm_test_laws.specs.Races.{apart_owns, apart_writes, fork_of, forking, is_apart, racing}
use Rattle.ppm_test_laws.specs.Sample.{sample}
use Rattle.ppm_test_laws.proofs.races.apart_trees_are_calm.Goals as goal

-- the law, of a code that respects the regions
pub returns : goal.returns
returns c = λ a.
    let met = c.races_are_not_calm.ensures.by_regions in
    let calm = c.calm_by_listed_regions.ensures (sample racing) is_apart apart_owns apart_writes met.0 in
    (calm (fork_of 0 2) a met.1, calm forking a met.2)

use Rattle.std.proofs.Common.{◌≡◌, rules}
use Rattle.ppm_cells.specs.Exact.{unpacked}
use Rattle.ppm_cells.specs.Region.{region_word, IsRegion, region_of}
use Rattle.ppm_cells.proofs.ExactLemmas.{fitting}
use Rattle.ppm_cells.proofs.RegionLemmas.{regions_exact, every_word}
use Rattle.ppm_cells.proofs.region.Region.unpack.Goals as goal

-- what was read, if it packs to the word
pub returns-clause-exactly : goal.returns-clause-exactly
unfolding unpacked
returns-clause-exactly c =
    let is : c.then_some.result ≡ region_of c.args.word = search rules in
    rw is (regions_exact c.args.word)

-- it always does
pub returns-clause-every : goal.returns-clause-every
unfolding unpacked
returns-clause-every c =
    let is : c.then_some.result ≡ region_of c.args.word = search rules in
    rw is (every_word c.args.word c.ranges.word.fits)

-- what packs to a word fits
pub returns-clause-fits : goal.returns-clause-fits
returns-clause-fits c = fitting region_word IsRegion c.args.word c.then_some.result (returns-clause-exactly c)

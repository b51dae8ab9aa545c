use Rattle.std.proofs.Common.{◌≡◌, rules}
use Rattle.ppm_cells.specs.Exact.{unpacked}
use Rattle.ppm_cells.specs.Holder.{holder_word, IsHolder, holder_of}
use Rattle.ppm_cells.proofs.ExactLemmas.{fitting}
use Rattle.ppm_cells.proofs.HolderLemmas.{holders_exact, every_word}
use Rattle.ppm_cells.proofs.holder.Holder.unpack.Goals as goal

-- what was read, if it packs to the word
pub returns-clause-exactly : goal.returns-clause-exactly
unfolding unpacked
returns-clause-exactly c =
    let is : c.then_some.result ≡ holder_of c.args.word = search rules in
    rw is (holders_exact c.args.word)

-- it always does
pub returns-clause-every : goal.returns-clause-every
unfolding unpacked
returns-clause-every c =
    let is : c.then_some.result ≡ holder_of c.args.word = search rules in
    rw is (every_word c.args.word c.ranges.word.fits)

-- what packs to a word fits
pub returns-clause-fits : goal.returns-clause-fits
returns-clause-fits c = fitting holder_word IsHolder c.args.word c.then_some.result (returns-clause-exactly c)

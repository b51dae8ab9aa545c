use Rattle.std.proofs.Common.{◌≡◌, rules}
use Rattle.ppm_cells.specs.Exact.{unpacked}
use Rattle.ppm_cells.specs.Finish.{finish_word, IsFinish, finish_of}
use Rattle.ppm_cells.proofs.ExactLemmas.{fitting}
use Rattle.ppm_cells.proofs.FinishLemmas.{finishes_exact}
use Rattle.ppm_cells.proofs.finish.Finish.unpack.Goals as goal

-- nothing was read
pub returns-in_err-finish-clause-exactly : goal.returns-in_err-finish-clause-exactly
unfolding unpacked
returns-in_err-finish-clause-exactly c =
    let is : c.from_residual.result ≡ finish_of c.args.word = search rules in
    rw is (finishes_exact c.args.word)

-- what was read, if it packs to the word
pub returns-clause-exactly : goal.returns-clause-exactly
unfolding unpacked
returns-clause-exactly c =
    let is : c.then_some.result ≡ finish_of c.args.word = search rules in
    rw is (finishes_exact c.args.word)

-- what packs to a word fits
pub returns-clause-fits : goal.returns-clause-fits
returns-clause-fits c = fitting finish_word IsFinish c.args.word c.then_some.result (returns-clause-exactly c)

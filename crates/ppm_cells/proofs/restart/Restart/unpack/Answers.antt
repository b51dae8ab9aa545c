use Rattle.std.proofs.Common.{◌≡◌, rules}
use Rattle.ppm_cells.specs.Exact.{unpacked}
use Rattle.ppm_cells.specs.Restart.{restart_word, IsRestart, restart_of}
use Rattle.ppm_cells.proofs.ExactLemmas.{fitting}
use Rattle.ppm_cells.proofs.RestartLemmas.{restarts_exact}
use Rattle.ppm_cells.proofs.restart.Restart.unpack.Goals as goal

-- nothing was read
pub returns-in_err-restart-clause-exactly : goal.returns-in_err-restart-clause-exactly
unfolding unpacked
returns-in_err-restart-clause-exactly c =
    let is : c.from_residual.result ≡ restart_of c.args.word = search rules in
    rw is (restarts_exact c.args.word)

-- what was read, if it packs to the word
pub returns-clause-exactly : goal.returns-clause-exactly
unfolding unpacked
returns-clause-exactly c =
    let is : c.then_some.result ≡ restart_of c.args.word = search rules in
    rw is (restarts_exact c.args.word)

-- what packs to a word fits
pub returns-clause-fits : goal.returns-clause-fits
returns-clause-fits c = fitting restart_word IsRestart c.args.word c.then_some.result (returns-clause-exactly c)

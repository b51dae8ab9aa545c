use Rattle.std.proofs.Common.{◌≡◌, rules}
use Rattle.ppm_cells.specs.Exact.{unpacked}
use Rattle.ppm_cells.specs.Entry.{entry_word, IsEntry, entry_of}
use Rattle.ppm_cells.proofs.ExactLemmas.{fitting}
use Rattle.ppm_cells.proofs.EntryLemmas.{entries_exact}
use Rattle.ppm_cells.proofs.entry.Entry.unpack.Goals as goal

-- what was read, if it packs to the word
pub returns-clause-exactly : goal.returns-clause-exactly
unfolding unpacked
returns-clause-exactly c =
    let is : c.then_some.result ≡ entry_of c.args.word = search rules in
    rw is (entries_exact c.args.word)

-- what packs to a word fits
pub returns-clause-fits : goal.returns-clause-fits
returns-clause-fits c = fitting entry_word IsEntry c.args.word c.then_some.result (returns-clause-exactly c)

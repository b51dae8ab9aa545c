use Rattle.ppm_test_laws.specs.Copies.{numbered, copies, both}
use Rattle.ppm_test_laws.proofs.CopiesLemmas.{both_calm, are_copied}
use Rattle.ppm_test_laws.proofs.copies.copies_with_faults.Goals as goal

-- the law, and the depth-first run
pub returns : goal.returns
returns c = λ k o a b run. are_copied k o a b
    ((c.faults_do_not_show.ensures numbered copies).ends c.copies_are_restartable.ensures k both o a b (both_calm a) run)

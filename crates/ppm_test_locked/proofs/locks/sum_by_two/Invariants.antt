use Rattle.ppm_core.specs.Situation.{loaded}
use Rattle.ppm_test_locked.proofs.locks.sum_by_two.Given as goal

abbrev pub ghosts-both_end-L-Keeping : goal.ghosts-both_end-L-Keeping
ghosts-both_end-L-Keeping g a = record { first = loaded a.image.shape a.code a.image.lengths a.image.words; most = a.most; all = a.work.parts; history = a.history }

abbrev pub ghosts-both_end-L-Ledger : goal.ghosts-both_end-L-Ledger
ghosts-both_end-L-Ledger g a = record { name = a.work.name; parts = a.work.parts }

abbrev pub ghosts-both_end-E-Ledger : goal.ghosts-both_end-E-Ledger
ghosts-both_end-E-Ledger g a = record { name = a.ends.name; parts = a.ends.parts }

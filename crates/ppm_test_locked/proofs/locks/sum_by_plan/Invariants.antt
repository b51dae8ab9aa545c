use Rattle.ppm_core.specs.Situation.{loaded}
use Rattle.ppm_test_locked.proofs.locks.sum_by_plan.Given as goal

abbrev pub ghosts-two_obey-L-Keeping : goal.ghosts-two_obey-L-Keeping
ghosts-two_obey-L-Keeping g a = record { first = loaded a.image.shape a.code a.image.lengths a.image.words; most = a.most; all = a.work.parts; history = a.history }

abbrev pub ghosts-two_obey-L-Ledger : goal.ghosts-two_obey-L-Ledger
ghosts-two_obey-L-Ledger g a = record { name = a.work.name; parts = a.work.parts }

abbrev pub ghosts-two_obey-E-Ledger : goal.ghosts-two_obey-E-Ledger
ghosts-two_obey-E-Ledger g a = record { name = a.ends.name; parts = a.ends.parts }

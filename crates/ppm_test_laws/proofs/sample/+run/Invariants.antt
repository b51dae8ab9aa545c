use Rattle.ppm_test_laws.proofs.sample.+run.Given as goal

-- the bound
abbrev pub decreases-run : goal.decreases-run
decreases-run l = l.bound

use Rattle.ppm_saved.proofs.RunLemmas.{first_of}
use Rattle.ppm_saved.proofs.run.first_run.Goals as goal

-- as long as equal words stand in front
pub returns-in-len1-up-clause-runs : goal.returns-in-len1-up-clause-runs
returns-in-len1-up-clause-runs c = rw (c.behind.ensures, c.front_len-more.ensures.len) (first_of c.args.words.now c.in-len1-up.len_at_least)

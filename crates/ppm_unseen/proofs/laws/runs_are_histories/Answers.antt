use Rattle.ppm_unseen.proofs.TogetherLemmas.{runs_are_histories}
use Rattle.ppm_unseen.proofs.laws.runs_are_histories.Goals as goal

-- between two deeds the strands go on one after another
pub returns-clause-with_faults : goal.returns-clause-with_faults
returns-clause-with_faults g c = λ s. runs_are_histories s (Unit {0})

pub returns-clause-without : goal.returns-clause-without
returns-clause-without g c = λ s. runs_are_histories s ⊥

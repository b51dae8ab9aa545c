use Rattle.ppm_stamps.proofs.WithinLemmas.{are_told_within}
use Rattle.ppm_stamps.proofs.laws.runs_are_told_within.Goals as goal

-- by induction on the number of capsules
pub returns : goal.returns
returns c = λ start code on. are_told_within code on

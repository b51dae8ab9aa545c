use Rattle.ppm_saved.proofs.RunLemmas.{runs_are_longest}
use Rattle.ppm_saved.proofs.laws.runs_are_the_longest.Goals as goal

-- by the longest runs of words with a word more
pub returns : goal.returns
returns c = record { law = runs_are_longest }

use Rattle.ppm_trace.proofs.ForkLemmas.{all_counted}
use Rattle.ppm_trace.proofs.laws.counts_are_the_machines.Goals as goal

-- mark by mark
pub returns : goal.returns
returns c = record { law = all_counted }

use Rattle.ppm_trace.proofs.CountTurnLemmas.{of_turns}
use Rattle.ppm_trace.proofs.ForkLemmas.{all_counted}
use Rattle.ppm_trace.proofs.laws.counts_are_of_turns.Goals as goal

-- turn by turn
pub returns : goal.returns
returns c = record { law = of_turns all_counted }

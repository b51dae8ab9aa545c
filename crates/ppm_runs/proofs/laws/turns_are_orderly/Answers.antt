use Rattle.ppm_runs.proofs.OrderlyLemmas.{turns_are_orderly}
use Rattle.ppm_runs.proofs.laws.turns_are_orderly.Goals as goal

pub returns : goal.returns
returns c = record { law = turns_are_orderly }

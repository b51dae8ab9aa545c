use Rattle.ppm_unseen.proofs.ClaimLemmas.{racing_claims}
use Rattle.ppm_unseen.proofs.laws.racing_claims_are_restartable.Goals as goal

-- a claimed word is never 0 again
pub returns : goal.returns
returns c = racing_claims

use Rattle.ppm_runs.proofs.FollowLemmas.{heirs_lead}
use Rattle.ppm_runs.proofs.HalvesLemmas.{halves_go_on}
use Rattle.ppm_runs.proofs.OrderlyLemmas.{halves_owe}
use Rattle.ppm_runs.proofs.laws.heirs_lead.Goals as goal

pub returns : goal.returns
returns c = record { law = heirs_lead; others = halves_go_on; owe = halves_owe }

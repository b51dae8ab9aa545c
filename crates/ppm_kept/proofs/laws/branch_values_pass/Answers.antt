use Rattle.ppm_kept.proofs.JoinValueLemmas.{all_branch_values_pass}
use Rattle.ppm_kept.proofs.laws.branch_values_pass.Goals as goal

pub returns : goal.returns
returns c = record { law = all_branch_values_pass }

use Rattle.ppm_cells.proofs.JoinLemmas.{one_is_last}
use Rattle.ppm_cells.proofs.join_laws.one_branch_is_last.Goals as goal

pub returns : goal.returns
returns c = record { law = one_is_last }

use Rattle.ppm_cut_bounds.proofs.OneFault.{one_fault}
use Rattle.ppm_cut_bounds.proofs.laws.have_one_fault.Goals as goal

pub returns : goal.returns
returns c = record { law = one_fault }

use Rattle.ppm_choice.specs.Obeying.{nothing_done}
use Rattle.ppm_choice.proofs.AloneLemmas.{one_run}
use Rattle.ppm_choice.proofs.laws.has_one_run.Goals as goal

pub returns : goal.returns
returns c s code plan limits processor = one_run s code plan limits processor nothing_done

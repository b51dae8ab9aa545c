use Rattle.ppm_outcomes.proofs.ResumeLemmas.{fronts_decide}
use Rattle.ppm_stop_command.proofs.fronts.fronts_decide_resumed.Goals as goal

-- a text that is longer is refused
pub returns : goal.returns
returns c = record { law = fronts_decide }

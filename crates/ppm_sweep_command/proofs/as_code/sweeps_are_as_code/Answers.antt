use Rattle.ppm_sweep_command.proofs.SweepAsCode.{sweeps_are_as_code}
use Rattle.ppm_sweep_command.proofs.as_code.sweeps_are_as_code.Goals as goal

-- from the law of replays
pub returns : goal.returns
returns c = record { law = sweeps_are_as_code c.replays_are_as_code.ensures.law }

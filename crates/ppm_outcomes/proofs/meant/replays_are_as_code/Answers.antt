use Rattle.ppm_outcomes.proofs.CodeReplayRows.{replays_are_as_code}
use Rattle.ppm_outcomes.proofs.meant.replays_are_as_code.Goals as goal

-- from the law of runs
pub returns : goal.returns
returns c = record { law = replays_are_as_code c.runs_are_as_code.ensures.law }

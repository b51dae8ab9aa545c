use Rattle.ppm_kept.proofs.BearLemmas.{turns_bear_left}
use Rattle.ppm_kept.proofs.StepRows.{turns_keep_left}
use Rattle.ppm_kept.proofs.laws.turns_keep_left.Goals as goal

pub returns : goal.returns
returns c = record { law = turns_keep_left; births = turns_bear_left }

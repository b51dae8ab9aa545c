use Rattle.ppm_kept.proofs.StepRows.{turns_keep, turns_keep_on}
use Rattle.ppm_kept.proofs.StopLemmas.{words_stay}
use Rattle.ppm_kept.proofs.laws.turns_keep.Goals as goal

pub returns : goal.returns
returns c = record { law = turns_keep; all = turns_keep_on; back = words_stay }

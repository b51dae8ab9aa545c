use Rattle.ppm_choice.proofs.RoundLemmas.{goes_on}
use Rattle.ppm_choice.proofs.SkipLemmas.{makes_no_more}
use Rattle.ppm_choice.proofs.schedule_laws.schedules_go_on.Goals as goal

pub returns : goal.returns
returns c = record { no_more = makes_no_more; no_fewer = goes_on }

use Rattle.ppm_choice.proofs.SkipLemmas.{skips_done}
use Rattle.ppm_choice.proofs.schedule_laws.schedules_skip_done.Goals as goal

pub returns : goal.returns
returns c = skips_done

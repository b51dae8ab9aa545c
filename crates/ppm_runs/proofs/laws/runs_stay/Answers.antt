use Rattle.ppm_runs.proofs.MomentLemmas.{turns_lead_on, runs_stay, once_at_each_moment}
use Rattle.ppm_runs.proofs.laws.runs_stay.Goals as goal

pub returns : goal.returns
returns c = record { leads = turns_lead_on; stay = runs_stay; once = once_at_each_moment }

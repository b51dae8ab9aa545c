use Rattle.ppm_runs.proofs.HeiredLemmas.{heirs_lead_on, runs_stay_heired, once_by_entries, runs_end_by_entries}
use Rattle.ppm_runs.proofs.laws.runs_stay_heired.Goals as goal

pub returns : goal.returns
returns c = record { leads = heirs_lead_on; stay = runs_stay_heired; once = once_by_entries; ends = runs_end_by_entries }

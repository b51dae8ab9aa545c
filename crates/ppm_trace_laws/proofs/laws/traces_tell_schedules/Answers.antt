use Rattle.ppm_trace_laws.proofs.ScheduleLemmas.{schedules_tell}
use Rattle.ppm_trace_laws.proofs.laws.traces_tell_schedules.Goals as goal

-- by the turns that the traces tell
pub returns : goal.returns
returns c = record { law = schedules_tell c.addresses_name_cells.ensures.law }

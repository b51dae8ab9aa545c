use Rattle.ppm_stop_command.proofs.CaseStoppedLemmas.{stopped_cases_go_on}
use Rattle.ppm_stop_command.proofs.stopped.stopped_cases_go_on.Goals as goal

-- by what a stop leaves of a code, and what runs in legs come to
pub returns : goal.returns
returns c = record { law = stopped_cases_go_on c.resume_laws.ensures.law c.stops_leave_states.ensures.of_code }

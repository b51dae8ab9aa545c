use Rattle.ppm_stop_command.proofs.StoppedLemmas.{stopped_runs_go_on}
use Rattle.ppm_stop_command.proofs.stopped.stopped_runs_go_on.Goals as goal

-- by what a stop leaves, and what runs in legs come to
pub returns : goal.returns
returns c = record {
  law = stopped_runs_go_on c.resume_laws.ensures.law c.stops_leave_states.ensures.law c.have_one_answer.ensures.law;
}

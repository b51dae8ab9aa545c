use Rattle.ppm_outcomes.proofs.LeftLemmas.{stops_leave_states, stops_of_code_leave_states}
use Rattle.ppm_outcomes.proofs.FaultLemmas.{faults_are_scheduled}
use Rattle.ppm_stop_command.proofs.states.stops_leave_states.Goals as goal

-- by the law of saved texts, and by what it is to be left
pub returns : goal.returns
returns c = record {
  law = stops_leave_states c.faults_tell_saved_texts.ensures.law;
  faults = faults_are_scheduled;
  of_code = stops_of_code_leave_states c.faults_tell_saved_texts.ensures.law;
}

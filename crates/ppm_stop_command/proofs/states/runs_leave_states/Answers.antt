use Rattle.ppm_outcomes.proofs.LeftLemmas.{runs_leave_states, runs_of_code_leave_states}
use Rattle.ppm_stop_command.proofs.states.runs_leave_states.Goals as goal

-- by what it is to be left
pub returns : goal.returns
returns c = record { law = runs_leave_states; of_code = runs_of_code_leave_states }

use Rattle.ppm_stop_command.proofs.OfResume.{resumes_leave_states}
use Rattle.ppm_outcomes.proofs.ResumedOfCode.{resumes_of_code_leave_states}
use Rattle.ppm_stop_command.proofs.states.resumes_leave_states.Goals as goal

-- as one leg more
pub returns : goal.returns
returns c = record {
  law = resumes_leave_states c.runs_in_legs_are_as_code.ensures.law c.left_words_come_back.ensures.of_code c.programs_are_as_code.ensures.law;
  of_code = resumes_of_code_leave_states c.runs_in_legs_are_as_code.ensures.law c.left_words_come_back.ensures.of_code;
}

use Rattle.ppm_trace_command.proofs.OneTrace.{have_one_case_answer}
use Rattle.ppm_trace_command.proofs.one_trace.case_traces_have_one_answer.Goals as goal

-- from the laws of cases, of images and of schedules
pub returns : goal.returns
returns c = record {
  law = have_one_case_answer c.faults_tell_cases.ensures.law c.images_are_one.ensures.law c.have_one_answer.ensures.law;
}

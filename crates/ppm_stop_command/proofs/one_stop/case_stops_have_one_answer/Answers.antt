use Rattle.ppm_stop_command.proofs.OneStopCase.{have_one_stop_answer}
use Rattle.ppm_stop_command.proofs.one_stop.case_stops_have_one_answer.Goals as goal

-- from the laws of texts, of images and of schedules
pub returns : goal.returns
returns c = record {
  law = have_one_stop_answer c.faults_tell_cases.ensures.law c.images_are_one.ensures.law c.have_one_answer.ensures.law;
}

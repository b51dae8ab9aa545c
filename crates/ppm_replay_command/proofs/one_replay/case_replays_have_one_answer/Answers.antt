use Rattle.ppm_replay_command.proofs.OneReplayCase.{have_one_case_answer}
use Rattle.ppm_replay_command.proofs.one_replay.case_replays_have_one_answer.Goals as goal

-- from the laws of texts, of images and of schedules
pub returns : goal.returns
returns c = record {
  law = have_one_case_answer c.faults_tell_cases.ensures.law c.images_are_one.ensures.law c.have_one_answer.ensures.law;
}

use Rattle.ppm_replay_command.proofs.OneCounted.{have_one_case_answer}
use Rattle.ppm_replay_command.proofs.one_counted.counted_case_replays_have_one_answer.Goals as goal

-- from the laws of cases, of images, of schedules and of counts
pub returns : goal.returns
returns c = record {
  law = have_one_case_answer c.counts_are_of_turns.ensures.law c.faults_tell_cases.ensures.law c.images_are_one.ensures.law
      c.have_one_answer.ensures.law;
}

use Rattle.ppm_outcomes.proofs.OneReplay.{have_one_answer}
use Rattle.ppm_replay_command.proofs.one_replay.replays_have_one_answer.Goals as goal

-- from the laws of texts, of codes, of images and of schedules
pub returns : goal.returns
returns c = record {
  law = have_one_answer (record {
    texts = c.have_one_answer.ensures.law;
    within = c.trees_are_within.ensures.law;
    rules = c.keeps_the_rules.ensures.law;
    images = c.images_are_one.ensures.law;
    plans = c.have_one_answer-2.ensures.law;
  });
}

use Rattle.ppm_replay_command.proofs.OneCounted.{have_one_answer}
use Rattle.ppm_replay_command.proofs.one_counted.counted_replays_have_one_answer.Goals as goal

-- from the laws of texts, of codes, of images, of schedules and of counts
pub returns : goal.returns
returns c = record {
  law = have_one_answer c.counts_are_of_turns.ensures.law (record {
    texts = c.have_one_answer.ensures.law;
    within = c.trees_are_within.ensures.law;
    rules = c.keeps_the_rules.ensures.law;
    images = c.images_are_one.ensures.law;
    plans = c.have_one_answer-2.ensures.law;
  });
}

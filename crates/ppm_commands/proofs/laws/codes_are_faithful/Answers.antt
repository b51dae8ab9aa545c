use Rattle.ppm_commands.proofs.FaithfulLemmas.{faithful}
use Rattle.ppm_commands.proofs.laws.codes_are_faithful.Goals as goal

-- from what is true of every text and of every program's code
pub returns : goal.returns
returns c = record {
  law = faithful (record {
    within = c.trees_are_within.ensures.law;
    rules = c.keeps_the_rules.ensures.law;
    stops = c.may_be_stopped.ensures.law;
    tidy = c.store_tidily.ensures.law;
    sound = c.code_is_sound.ensures.law;
    ends = c.end_as_meant.ensures.law;
  });
}

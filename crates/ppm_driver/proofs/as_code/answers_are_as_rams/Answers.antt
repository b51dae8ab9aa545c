use Rattle.ppm_driver.proofs.AsRamLemmas.{answers_are_as_rams}
use Rattle.ppm_driver.proofs.as_code.answers_are_as_rams.Goals as goal

-- from the laws of the RAM's code, and of runs of sound codes
pub returns : goal.returns
returns c = record {
  law = answers_are_as_rams (record {
    rules = c.keeps_the_rules.ensures.law;
    sound = c.is_sound.ensures.law;
    ends = c.ends_as_the_ram.ensures.law;
    runs = c.answers_are_as_code.ensures.law;
  });
}

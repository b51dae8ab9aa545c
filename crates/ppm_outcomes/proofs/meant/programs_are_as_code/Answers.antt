use Rattle.ppm_outcomes.proofs.MeantLemmas.{programs_are_as_code}
use Rattle.ppm_outcomes.proofs.meant.programs_are_as_code.Goals as goal

-- from the laws of texts and of programs' codes
pub returns : goal.returns
returns c = record {
  law = programs_are_as_code (record {
    within = c.trees_are_within.ensures.law;
    rules = c.keeps_the_rules.ensures.law;
    sound = c.code_is_sound.ensures.law;
    starts = c.start_with_input.ensures.law;
    names = c.name_arrays.ensures.law;
    serially = c.ends_serially.ensures.law;
    meant = c.end_as_meant.ensures.law;
  });
}

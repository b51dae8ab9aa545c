use Rattle.ppm_commands.proofs.WrittenLemmas.{are_cases}
use Rattle.ppm_commands.proofs.laws.case_texts_are_cases.Goals as goal

-- from what is true of every program and of what is written
pub returns : goal.returns
returns c = record {
  law = are_cases (record {
    within = c.trees_are_within.ensures.law;
    rules = c.keeps_the_rules.ensures.law;
    starts = c.start_with_input.ensures.law;
    names = c.name_arrays.ensures.law;
    written = c.written_cases_are_read.ensures.law;
  });
}

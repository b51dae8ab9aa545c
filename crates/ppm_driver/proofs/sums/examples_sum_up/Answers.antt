use Rattle.ppm_driver.proofs.ExampleSums.{examples_sum_up}
use Rattle.ppm_driver.proofs.sums.examples_sum_up.Goals as goal

-- from the laws of texts, of runs and of the example
pub returns : goal.returns
returns c = record {
  law = examples_sum_up (record {
    runs = c.runs_are_as_programs.ensures.law;
    texts = c.have_one_answer.ensures.law;
    programs = c.examples_are_programs.ensures.law;
    sums = c.examples_sum.ensures.law;
  });
}

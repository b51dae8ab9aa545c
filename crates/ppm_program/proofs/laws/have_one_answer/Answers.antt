use Rattle.ppm_program.proofs.OneAnswer.{have_one_answer}
use Rattle.ppm_program.proofs.laws.have_one_answer.Goals as goal

-- from the laws of the crates below
pub returns : goal.returns
returns c = record {
  law = have_one_answer (record {
    reading = c.have_one_reading.ensures.law;
    tokens = c.have_one_answer.ensures.law;
    regions = c.have_one_fault.ensures.law;
    bounds = c.have_one_fault-2.ensures.law;
  });
}

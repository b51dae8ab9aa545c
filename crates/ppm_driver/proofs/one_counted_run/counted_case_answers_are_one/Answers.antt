use Rattle.ppm_driver.proofs.OneCountedRun.{counted_case_answers_are_one}
use Rattle.ppm_driver.proofs.one_counted_run.counted_case_answers_are_one.Goals as goal

-- from the laws of cases, of images, of plans and of runs
pub returns : goal.returns
returns c = record {
  law = counted_case_answers_are_one c.faults_tell_cases.ensures.law c.images_are_one.ensures.law c.have_one_answer.ensures.law
      c.has_one_run.ensures;
}

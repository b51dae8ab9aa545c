use Rattle.ppm_driver.proofs.OneRun.{answers_are_one, fronts_decide}
use Rattle.ppm_driver.proofs.one_run.answers_are_one.Goals as goal

-- from the laws of texts, of images, of plans and of runs
pub returns-clause-one : goal.returns-clause-one
returns-clause-one c = answers_are_one (record {
  texts = c.have_one_answer.ensures.law;
  images = c.images_are_one.ensures.law;
  plans = c.have_one_answer-2.ensures.law;
  runs = c.has_one_run.ensures;
})

-- and of that of texts alone
pub returns-clause-front : goal.returns-clause-front
returns-clause-front c = fronts_decide c.have_one_answer.ensures.law

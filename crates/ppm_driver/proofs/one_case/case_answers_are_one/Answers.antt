use Rattle.ppm_driver.proofs.OneCase.{case_answers_are_one, case_fronts_decide}
use Rattle.ppm_driver.proofs.one_case.case_answers_are_one.Goals as goal

-- from the laws of texts, of images, of plans and of runs
pub returns-clause-one : goal.returns-clause-one
returns-clause-one c = case_answers_are_one c.faults_tell_cases.ensures.law c.images_are_one.ensures.law c.have_one_answer.ensures.law c.has_one_run.ensures

-- and of that of texts alone
pub returns-clause-front : goal.returns-clause-front
returns-clause-front c = case_fronts_decide c.faults_tell_cases.ensures.law

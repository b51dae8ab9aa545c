use Rattle.ppm_driver.proofs.OneRam.{ram_answers_are_one, ram_fronts_decide}
use Rattle.ppm_driver.proofs.one_ram.ram_answers_are_one.Goals as goal

-- from the laws of texts, of images, of plans and of runs
pub returns-clause-one : goal.returns-clause-one
returns-clause-one c =
    ram_answers_are_one c.texts_are_of_rams.ensures c.images_are_one.ensures.law c.have_one_answer.ensures.law c.has_one_run.ensures

-- and of none
pub returns-clause-front : goal.returns-clause-front
returns-clause-front c = ram_fronts_decide

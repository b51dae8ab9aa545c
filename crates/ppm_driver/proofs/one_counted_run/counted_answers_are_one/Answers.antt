use Rattle.ppm_driver.proofs.OneCountedRun.{counted_answers_are_one}
use Rattle.ppm_driver.proofs.one_counted_run.counted_answers_are_one.Goals as goal

-- from the laws of texts, of images, of plans and of runs
pub returns : goal.returns
returns c = record {
  law = counted_answers_are_one (record {
    texts = c.have_one_answer.ensures.law;
    images = c.images_are_one.ensures.law;
    plans = c.have_one_answer-2.ensures.law;
    runs = c.has_one_run.ensures;
  });
}

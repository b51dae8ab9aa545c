use Rattle.ppm_explained.proofs.AnswerLemmas.{have_one_answer}
use Rattle.ppm_explained.proofs.laws.texts_have_one_answer.Goals as goal

-- from the laws of the commands that read the texts
pub returns : goal.returns
returns c = record {
  law = have_one_answer c.have_one_answer.ensures.law c.have_one_answer-2.ensures.law c.listings_have_one_answer.ensures.law
      c.faults_tell_listings.ensures.law c.cases_have_one_answer.ensures.law c.faults_tell_cases.ensures.law c.saved_texts_have_one_answer.ensures.law;
}

use Rattle.ppm_commands.proofs.CheckAnswers.{have_one_answer}
use Rattle.ppm_commands.proofs.laws.listings_have_one_answer.Goals as goal

-- from what faults tell of listings
pub returns : goal.returns
returns c = record { law = have_one_answer c.faults_tell_listings.ensures.law }

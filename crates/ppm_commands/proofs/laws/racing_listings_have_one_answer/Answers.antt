use Rattle.ppm_commands.proofs.RacingAnswers.{have_one_answer}
use Rattle.ppm_commands.proofs.laws.racing_listings_have_one_answer.Goals as goal

-- from what faults tell of listings, and flaws of codes
pub returns : goal.returns
returns c = record {
  law = have_one_answer c.faults_tell_listings.ensures.law c.racy_faults_tell_listings.ensures c.racy_flaws_tell_codes.ensures
      c.racy_codes_without_flaws_are_restartable.ensures;
}

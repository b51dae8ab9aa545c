use Rattle.ppm_answers.proofs.Judged.{judging_delivered}
use Rattle.ppm_listing_reader.specs.Limits.{listing_limit}
use Rattle.ppm_commands.specs.RacingCheck.{RacingHas}
use Rattle.ppm_commands.proofs.RacingRows.{racing_check_rows}
use Rattle.ppm_commands.proofs.racing_check.racing_check_command.Goals as goal

-- the answer was delivered, or out of memory in its place, and the rows follow from it
pub returns : goal.returns
returns g c = record {
  delivers = judging_delivered listing_limit RacingHas _ _ _ c.check_answer-answer.ensures c.deliver.ensures;
  rows = racing_check_rows _ c.racing_listings_have_one_answer.ensures.law _
      (judging_delivered listing_limit RacingHas _ _ _ c.check_answer-answer.ensures c.deliver.ensures);
}

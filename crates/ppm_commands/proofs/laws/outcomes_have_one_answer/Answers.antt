use Rattle.ppm_commands.proofs.SerialAnswers.{have_one_answer}
use Rattle.ppm_commands.proofs.laws.outcomes_have_one_answer.Goals as goal

-- from what is true of every text and of every program
pub returns : goal.returns
returns c = record {
  law = have_one_answer c.have_one_answer.ensures.law c.spend_their_turns.ensures.law c.have_one_end.ensures.law c.none_is_stuck.ensures.law;
}

use Rattle.ppm_answers.proofs.Judged.{judging_delivered}
use Rattle.ppm_text.specs.Limits.{text_limit}
use Rattle.ppm_commands.specs.Serial.{SerialHas}
use Rattle.ppm_commands.proofs.SerialRows.{serial_rows}
use Rattle.ppm_commands.proofs.serial.serial_command.Goals as goal

-- the answer was delivered, or out of memory in its place, and the rows follow from it
pub returns : goal.returns
returns g c = record {
  delivers = judging_delivered text_limit (SerialHas c.args.turns) _ _ _ c.serial_answer-answer.ensures c.deliver.ensures;
  rows = serial_rows c.args.turns _ (c.outcomes_have_one_answer.ensures.law c.args.turns) _
      (judging_delivered text_limit (SerialHas c.args.turns) _ _ _ c.serial_answer-answer.ensures c.deliver.ensures);
}

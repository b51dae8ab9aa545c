use Rattle.ppm_answers.proofs.Judged.{judging_delivered}
use Rattle.ppm_saved_reader.specs.Rules.{saved_limit}
use Rattle.ppm_commands.specs.Show.{ShowHas}
use Rattle.ppm_commands.proofs.ShowRows.{show_rows}
use Rattle.ppm_commands.proofs.show.show_command.Goals as goal

-- the answer was delivered, or out of memory in its place, and the rows follow from it
pub returns : goal.returns
returns g c = record {
  delivers = judging_delivered saved_limit ShowHas _ _ _ c.show_answer-answer.ensures c.deliver.ensures;
  rows = show_rows _ c.saved_texts_have_one_answer.ensures.law _
      (judging_delivered saved_limit ShowHas _ _ _ c.show_answer-answer.ensures c.deliver.ensures);
}

use Rattle.ppm_answers.proofs.Judged.{judging_delivered}
use Rattle.ppm_text.specs.Limits.{text_limit}
use Rattle.ppm_commands.specs.Code.{CodeReads}
use Rattle.ppm_commands.proofs.CodeRows.{code_rows}
use Rattle.ppm_commands.proofs.code.code_command.Goals as goal

-- the answer was delivered, or out of memory in its place, and the rows follow from it
pub returns : goal.returns
returns g c = record {
  delivers = judging_delivered text_limit CodeReads _ _ _ c.listing_answer-answer.ensures c.deliver.ensures;
  rows = code_rows c.codes_have_one_answer.ensures.law c.codes_are_faithful.ensures.law _ _
      (judging_delivered text_limit CodeReads _ _ _ c.listing_answer-answer.ensures c.deliver.ensures);
}

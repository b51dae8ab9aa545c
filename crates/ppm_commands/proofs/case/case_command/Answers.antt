use Rattle.ppm_answers.proofs.Judged.{judging_delivered}
use Rattle.ppm_text.specs.Limits.{text_limit}
use Rattle.ppm_commands.specs.Case.{CaseReads}
use Rattle.ppm_commands.proofs.CaseRows.{case_rows}
use Rattle.ppm_commands.proofs.case.case_command.Goals as goal

-- the answer was delivered, or out of memory in its place, and the rows follow from it
pub returns : goal.returns
returns g c = record {
  delivers = judging_delivered text_limit CaseReads _ _ _ c.case_answer-answer.ensures c.deliver.ensures;
  rows = case_rows c.case_texts_have_one_answer.ensures.law c.case_texts_are_cases.ensures.law c.codes_are_faithful.ensures.law _ _
      (judging_delivered text_limit CaseReads _ _ _ c.case_answer-answer.ensures c.deliver.ensures);
}

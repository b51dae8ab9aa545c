use Rattle.std.proofs.Common.{sym, subst}
use Rattle.ppm_answers.specs.Reading.{TextMay, JudgingMay}
use Rattle.ppm_answers.specs.declared.answer.Answer.TheVariants as answers
use Rattle.ppm_case.specs.Rules.{case_limit}
use Rattle.ppm_answers.proofs.Judged.{not_read, is_read}
use Rattle.ppm_strands_command.specs.Cases.{OfTidy}
use Rattle.ppm_strands_command.specs.Drawn.{DrawnHas, OfDraws}
use Rattle.ppm_strands_command.proofs.CaseAnswers.{no_fault}
use Rattle.ppm_strands_command.proofs.OneDrawnAnswer.{of_draws}
use Rattle.ppm_strands_command.proofs.drawn.source_answer.Goals as goal

-- the text that was read is run
pub returns-in-Ok : goal.returns-in-Ok
returns-in-Ok g c =
    is_read case_limit (DrawnHas c.args.options)
    (no_fault (OfTidy (OfDraws c.args.options)) (λ code input h. of_draws c.args.options code input answers.ReadFault h)) _ c.in-Ok.text.items
    c.text_answer.result (record { whole = c.in-Ok.ensures.bytes; holds = c.in-Ok.ensures.cause })
    (subst (λ text. TextMay (DrawnHas c.args.options) text c.text_answer.result) c.deref.ensures.value c.text_answer.ensures)

-- or it was not read whole
pub returns-in-Err : goal.returns-in-Err
returns-in-Err g c =
    subst (JudgingMay case_limit (DrawnHas c.args.options) _) (sym c.answer_of_read.ensures)
    (not_read case_limit (DrawnHas c.args.options) _ c.in-Err.error c.in-Err.ensures.front c.in-Err.ensures.cause)

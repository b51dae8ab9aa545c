use Rattle.std.proofs.Common.{sym, subst}
use Rattle.ppm_answers.specs.Reading.{TextMay, JudgingMay}
use Rattle.ppm_text.specs.Limits.{text_limit}
use Rattle.ppm_answers.proofs.Judged.{not_read, is_read}
use Rattle.ppm_explained.specs.Trapping.{TrapHas}
use Rattle.ppm_explained.proofs.TrapRows.{no_fault}
use Rattle.ppm_explained.proofs.trapping.read_answer.Goals as goal

-- the text that was read is judged
pub returns-in-Ok : goal.returns-in-Ok
returns-in-Ok g c =
    is_read text_limit (TrapHas c.args.turns) (no_fault c.args.turns) _ c.in-Ok.text.items c.text_answer.result
    (record { whole = c.in-Ok.ensures.bytes; holds = c.in-Ok.ensures.cause })
    (subst (λ text. TextMay (TrapHas c.args.turns) text c.text_answer.result) c.deref.ensures.value c.text_answer.ensures)

-- or it was not read whole
pub returns-in-Err : goal.returns-in-Err
returns-in-Err g c =
    subst (JudgingMay text_limit (TrapHas c.args.turns) _) (sym c.answer_of_read.ensures)
    (not_read text_limit (TrapHas c.args.turns) _ c.in-Err.error c.in-Err.ensures.front c.in-Err.ensures.cause)

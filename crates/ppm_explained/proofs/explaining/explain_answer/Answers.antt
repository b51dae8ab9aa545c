use Rattle.std.proofs.Common.{sym, subst}
use Rattle.ppm_answers.specs.Reading.{TextMay, JudgingMay}
use Rattle.ppm_answers.proofs.Judged.{not_read, is_read}
use Rattle.ppm_explained.specs.Explaining.{ExplainHas}
use Rattle.ppm_explained.proofs.ExplainRows.{by_limit, no_fault}
use Rattle.ppm_explained.proofs.explaining.explain_answer.Goals as goal

-- the text that was read is judged
pub returns-in-Ok : goal.returns-in-Ok
returns-in-Ok g c =
    by_limit (ExplainHas c.args.kind) _ c.text_answer.result c.limit.ensures
    (is_read c.limit.result (ExplainHas c.args.kind) (no_fault c.args.kind) _ c.in-Ok.text.items c.text_answer.result
    (record { whole = c.in-Ok.ensures.bytes; holds = c.in-Ok.ensures.cause })
    (subst (λ text. TextMay (ExplainHas c.args.kind) text c.text_answer.result) c.deref.ensures.value c.text_answer.ensures))

-- or it was not read whole
pub returns-in-Err : goal.returns-in-Err
returns-in-Err g c =
    by_limit (ExplainHas c.args.kind) _ _ c.limit.ensures
    (subst (JudgingMay c.limit.result (ExplainHas c.args.kind) _) (sym c.answer_of_read.ensures)
    (not_read c.limit.result (ExplainHas c.args.kind) _ c.in-Err.error c.in-Err.ensures.front c.in-Err.ensures.cause))

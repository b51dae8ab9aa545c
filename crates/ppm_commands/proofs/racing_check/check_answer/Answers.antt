use Rattle.std.proofs.Common.{sym, subst}
use Rattle.ppm_answers.specs.Reading.{TextMay, JudgingMay}
use Rattle.ppm_listing_reader.specs.Limits.{listing_limit}
use Rattle.ppm_answers.proofs.Judged.{not_read, is_read}
use Rattle.ppm_commands.specs.RacingCheck.{RacingHas}
use Rattle.ppm_commands.proofs.RacingRows.{no_read_fault}
use Rattle.ppm_commands.proofs.racing_check.check_answer.Goals as goal

-- the text that was read is judged
pub returns-in-Ok : goal.returns-in-Ok
returns-in-Ok g c =
    is_read listing_limit RacingHas no_read_fault _ c.in-Ok.text.items c.text_answer.result
    (record { whole = c.in-Ok.ensures.bytes; holds = c.in-Ok.ensures.cause })
    (subst (λ text. TextMay RacingHas text c.text_answer.result) c.deref.ensures.value c.text_answer.ensures)

-- or it was not read whole
pub returns-in-Err : goal.returns-in-Err
returns-in-Err g c =
    subst (JudgingMay listing_limit RacingHas _) (sym c.answer_of_read.ensures)
    (not_read listing_limit RacingHas _ c.in-Err.error c.in-Err.ensures.front c.in-Err.ensures.cause)

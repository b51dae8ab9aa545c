use Rattle.std.proofs.Common.{length, sym, ◌∙◌, ltb-false, ltb-true}
use Rattle.ppm_listing_reader.specs.Limits.{listing_limit}
use Rattle.ppm_commands.proofs.RacingAnswers.{refusal_has, verdict_has}
use Rattle.ppm_commands.proofs.racing_check.text_answer.Goals as goal

-- the text is too long
pub long_answer-requires : goal.long_answer-requires
long_answer-requires c = ltb-true listing_limit (length c.args.text.now) (sym c.is_too_long.ensures ∙ c.if-is_too_long.true)

-- the text is the listing of the code that was read
pub returns-in-Ok : goal.returns-in-Ok
returns-in-Ok c = verdict_has c.args.text.now c.in-Ok.code c.code_answer.result (record {
  listed = record { code = c.parts.ensures.code; fits = c.in-Ok.ensures.fits; same = c.in-Ok.ensures.ok };
  short = ltb-false listing_limit (length c.args.text.now) (sym c.is_too_long.ensures ∙ c.if-is_too_long.false);
}) c.code_answer.ensures

-- or of none
pub returns-in-Err : goal.returns-in-Err
returns-in-Err c = refusal_has c.args.text.now c.in-Err.error c.error_answer.result
    (ltb-false listing_limit (length c.args.text.now) (sym c.is_too_long.ensures ∙ c.if-is_too_long.false)) c.error_answer.ensures c.in-Err.ensures.err

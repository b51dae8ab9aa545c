use Rattle.std.proofs.Common.{sym, subst}
use Rattle.ppm_answers.specs.Reading.{JudgingMay}
use Rattle.ppm_answers.proofs.Judged.{not_read, is_read}
use Rattle.ppm_saved_reader.specs.Rules.{saved_limit}
use Rattle.ppm_outcomes.specs.CountedResumes.{TextHas}
use Rattle.ppm_outcomes.proofs.CountedResumeLemmas.{no_fault}
use Rattle.ppm_stop_command.proofs.counted_resume.read_answer.Goals as goal

-- the text that was read is judged
pub returns-in-Ok : goal.returns-in-Ok
returns-in-Ok g c =
    is_read saved_limit (TextHas c.args.options c.args.faults.now) (no_fault c.args.options c.args.faults.now) _ c.in-Ok.text.items c.text_answer.result
    (record { whole = c.in-Ok.ensures.bytes; holds = c.in-Ok.ensures.cause }) c.text_answer.ensures

-- or it was not read whole
pub returns-in-Err : goal.returns-in-Err
returns-in-Err g c =
    subst (JudgingMay saved_limit (TextHas c.args.options c.args.faults.now) _) (sym c.answer_of_read.ensures)
    (not_read saved_limit (TextHas c.args.options c.args.faults.now) _ c.in-Err.error c.in-Err.ensures.front c.in-Err.ensures.cause)

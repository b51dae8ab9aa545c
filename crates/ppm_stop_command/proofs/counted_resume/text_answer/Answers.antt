use Rattle.std.proofs.Common.{sym, subst, arith}
use Rattle.ppm_answers.specs.Reading.{TextMay}
use Rattle.ppm_saved_reader.specs.Correct.{IsRefusal, IsSavedText}
use Rattle.ppm_outcomes.specs.CountedResumes.{TextHas}
use Rattle.ppm_outcomes.specs.Resumes.{state_of}
use Rattle.ppm_outcomes.proofs.CountedResumeLemmas.{long_text, refused_text, text_may}
use Rattle.ppm_stop_command.proofs.counted_resume.text_answer.Goals as goal

-- a text that is too long
pub returns-then-len-gt-SAVED_LIMIT : goal.returns-then-len-gt-SAVED_LIMIT
returns-then-len-gt-SAVED_LIMIT g c = long_text c.args.options c.args.faults.now c.args.text.items (omega arith)

-- one of a state
pub returns-in-Ok : goal.returns-in-Ok
returns-in-Ok g c =
    text_may c.args.options c.args.faults.now c.args.text.items (state_of c.in-Ok.saved) (record { short = omega arith; saved = subst (λ text. IsSavedText text c.in-Ok.saved.shape c.in-Ok.saved.names c.in-Ok.saved.code c.in-Ok.saved.words) c.deref.ensures.value c.in-Ok.ensures.ok })
    c.state_answer.result c.state_answer.ensures

-- one of none
pub returns-in-Err : goal.returns-in-Err
returns-in-Err g c =
    subst (TextMay (TextHas c.args.options c.args.faults.now) c.args.text.items) (sym c.refused_answer.ensures)
    (refused_text c.args.options c.args.faults.now c.args.text.items c.in-Err.error (subst (λ text. IsRefusal text c.in-Err.error) c.deref.ensures.value c.in-Err.ensures.err))

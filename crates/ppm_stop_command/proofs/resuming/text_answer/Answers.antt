use Rattle.std.proofs.Common.{[], inl, refl, sym, subst, arith}
use Rattle.ppm_answers.specs.Reading.{TextMay}
use Rattle.ppm_saved_reader.specs.Correct.{IsRefusal, IsSavedText}
use Rattle.ppm_outcomes.specs.Resumes.{TextHas, state_of}
use Rattle.ppm_outcomes.proofs.ResumeLemmas.{long_text, refused_text, text_may, text_tells, untold_text}
use Rattle.ppm_outcomes.proofs.WatchLemmas.{fronts_stay}
use Rattle.ppm_stop_command.proofs.resuming.text_answer.Goals as goal

-- a text that is too long
pub returns-then-len-gt-SAVED_LIMIT-clause-may : goal.returns-then-len-gt-SAVED_LIMIT-clause-may
returns-then-len-gt-SAVED_LIMIT-clause-may g c = long_text c.args.options c.args.faults.now [] [] c.args.text.items (omega arith)

pub returns-then-len-gt-SAVED_LIMIT-clause-told : goal.returns-then-len-gt-SAVED_LIMIT-clause-told
returns-then-len-gt-SAVED_LIMIT-clause-told g c = (refl, inl refl, tt)

pub returns-then-len-gt-SAVED_LIMIT-clause-kept : goal.returns-then-len-gt-SAVED_LIMIT-clause-kept
returns-then-len-gt-SAVED_LIMIT-clause-kept g c = fronts_stay _

-- one of a state
pub returns-in-Ok-clause-may : goal.returns-in-Ok-clause-may
returns-in-Ok-clause-may g c =
    text_may c.args.options c.args.faults.now _ _ c.args.text.items (state_of c.in-Ok.saved) (record { short = omega arith; saved = subst (λ text. IsSavedText text c.in-Ok.saved.shape c.in-Ok.saved.names c.in-Ok.saved.code c.in-Ok.saved.words) c.deref.ensures.value c.in-Ok.ensures.ok })
    c.state_answer.result c.state_answer.ensures.may

pub returns-in-Ok-clause-told : goal.returns-in-Ok-clause-told
returns-in-Ok-clause-told g c =
    text_tells c.args.options _ _ c.args.faults.now c.args.text.items (state_of c.in-Ok.saved) (record { short = omega arith; saved = subst (λ text. IsSavedText text c.in-Ok.saved.shape c.in-Ok.saved.names c.in-Ok.saved.code c.in-Ok.saved.words) c.deref.ensures.value c.in-Ok.ensures.ok })
    c.state_answer.result c.state_answer.ensures.told

-- one of none
pub returns-in-Err-clause-may : goal.returns-in-Err-clause-may
returns-in-Err-clause-may g c =
    subst (TextMay (TextHas c.args.options c.args.faults.now _ _) c.args.text.items) (sym c.refused_answer.ensures)
    (refused_text c.args.options c.args.faults.now _ _ c.args.text.items c.in-Err.error (subst (λ text. IsRefusal text c.in-Err.error) c.deref.ensures.value c.in-Err.ensures.err))

pub returns-in-Err-clause-told : goal.returns-in-Err-clause-told
returns-in-Err-clause-told g c = untold_text c.args.options c.args.faults.now c.args.text.items c.refused_answer.result _

pub returns-in-Err-clause-kept : goal.returns-in-Err-clause-kept
returns-in-Err-clause-kept g c = fronts_stay _

use Rattle.std.proofs.Common.{sym, subst}
use Rattle.std.proofs.lemmas.Result.{IfOk-weaker, MatchResult-weaker}
use Rattle.ppm_answers.specs.Reading.{TextMay}
use Rattle.ppm_answers.proofs.Judged.{is_read, not_read}
use Rattle.ppm_saved_reader.specs.Rules.{saved_limit}
use Rattle.ppm_outcomes.specs.Resumes.{IsTextOf, state_of}
use Rattle.ppm_legs.specs.SavedTexts.{NoStateMay, RefusedHas}
use Rattle.ppm_legs.proofs.LegLemmas.{no_fault}
use Rattle.ppm_legs.proofs.saved_reading.state_of_source.Goals as goal

-- it is that of the text that was read
pub returns-in-Ok-clause-state : goal.returns-in-Ok-clause-state
returns-in-Ok-clause-state g c =
    IfOk-weaker c.text_state.result _ _
    (λ saved h. (
      c.in-Ok.text.items,
      record { whole = c.in-Ok.ensures.bytes; holds = c.in-Ok.ensures.cause },
      subst (λ text. IsTextOf text (state_of saved)) c.deref.ensures.value h,
    ))
    c.text_state.ensures.state

-- or the text that was read is of none
pub returns-in-Ok-clause-none : goal.returns-in-Ok-clause-none
returns-in-Ok-clause-none g c =
    MatchResult-weaker c.text_state.result c.text_state.ensures.none (λ saved h. h)
    (λ answer h. is_read saved_limit RefusedHas no_fault _ c.in-Ok.text.items answer
    (record { whole = c.in-Ok.ensures.bytes; holds = c.in-Ok.ensures.cause })
    (subst (λ text. TextMay RefusedHas text answer) c.deref.ensures.value h))

-- or it was not read whole
pub returns-in-Err-clause-none : goal.returns-in-Err-clause-none
returns-in-Err-clause-none g c =
    subst (NoStateMay _) (sym c.answer_of_read.ensures)
    (not_read saved_limit RefusedHas _ c.in-Err.error c.in-Err.ensures.front c.in-Err.ensures.cause)

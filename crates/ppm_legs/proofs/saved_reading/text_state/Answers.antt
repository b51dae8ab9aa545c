use Rattle.std.proofs.Common.{arith, sym, subst}
use Rattle.ppm_answers.specs.Reading.{TextMay}
use Rattle.ppm_legs.specs.SavedTexts.{RefusedHas}
use Rattle.ppm_legs.proofs.LegLemmas.{long_text, refused_text}
use Rattle.ppm_legs.proofs.saved_reading.text_state.Goals as goal

-- a text that is too long
pub returns-then-text-gt-SAVED_LIMIT-clause-none : goal.returns-then-text-gt-SAVED_LIMIT-clause-none
returns-then-text-gt-SAVED_LIMIT-clause-none c = long_text c.args.text.now (omega arith)

-- one of a state
pub returns-in-Ok-clause-state : goal.returns-in-Ok-clause-state
returns-in-Ok-clause-state c = record { short = omega arith; saved = c.in-Ok.ensures.ok }

-- one of none
pub returns-in-Err-clause-none : goal.returns-in-Err-clause-none
returns-in-Err-clause-none c =
    subst (TextMay RefusedHas c.args.text.now) (sym c.refused_answer.ensures) (refused_text c.args.text.now c.in-Err.error c.in-Err.ensures.err)

use Rattle.std.proofs.Common.{sym, subst}
use Rattle.ppm_answers.specs.Reading.{JudgingMay}
use Rattle.ppm_answers.proofs.Judged.{not_read, is_read}
use Rattle.ppm_saved_reader.specs.Rules.{saved_limit}
use Rattle.ppm_outcomes.specs.Resumes.{TextHas}
use Rattle.ppm_outcomes.proofs.ResumeLemmas.{no_fault, source_tells, untold_source}
use Rattle.ppm_outcomes.proofs.WatchLemmas.{fronts_stay}
use Rattle.ppm_stop_command.proofs.resuming.read_answer.Goals as goal

-- the text that was read is judged
pub returns-in-Ok-clause-may : goal.returns-in-Ok-clause-may
returns-in-Ok-clause-may g c =
    is_read saved_limit (TextHas c.args.options c.args.faults.now _ _) (no_fault c.args.options c.args.faults.now _ _) _ c.in-Ok.text.items c.text_answer.result
    (record { whole = c.in-Ok.ensures.bytes; holds = c.in-Ok.ensures.cause }) c.text_answer.ensures.may

pub returns-in-Ok-clause-told : goal.returns-in-Ok-clause-told
returns-in-Ok-clause-told g c =
    source_tells c.args.options _ _ c.args.faults.now _ c.in-Ok.text.items (record { whole = c.in-Ok.ensures.bytes; holds = c.in-Ok.ensures.cause })
    c.text_answer.result c.text_answer.ensures.told

-- or it was not read whole, and nobody was told anything
pub returns-in-Err-clause-may : goal.returns-in-Err-clause-may
returns-in-Err-clause-may g c =
    subst (JudgingMay saved_limit (TextHas c.args.options c.args.faults.now _ _) _) (sym c.answer_of_read.ensures)
    (not_read saved_limit (TextHas c.args.options c.args.faults.now _ _) _ c.in-Err.error c.in-Err.ensures.front c.in-Err.ensures.cause)

pub returns-in-Err-clause-told : goal.returns-in-Err-clause-told
returns-in-Err-clause-told g c = untold_source c.args.options c.args.faults.now _ c.answer_of_read.result _

pub returns-in-Err-clause-kept : goal.returns-in-Err-clause-kept
returns-in-Err-clause-kept g c = fronts_stay _

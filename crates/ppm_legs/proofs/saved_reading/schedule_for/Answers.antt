use Rattle.std.proofs.Common.{rules, sym, subst}
use Rattle.ppm_loading.specs.Programs.{ProgramMay}
use Rattle.ppm_outcomes.specs.Resumes.{state_of}
use Rattle.ppm_legs.specs.SavedTexts.{StateHas}
use Rattle.ppm_legs.proofs.LegLemmas.{broken_words, refused_schedule}
use Rattle.ppm_legs.proofs.saved_reading.schedule_for.Goals as goal

-- the saved finish word stands for nothing
pub returns-then-is_none-clause-none : goal.returns-then-is_none-clause-none
returns-then-is_none-clause-none c =
    let may = broken_words c.args.text.now (state_of c.args.saved.now) c.in-Ok.schedule.items c.in-Ok.ensures.schedule in search rules

-- the schedule is refused
pub returns-in-Err-clause-none : goal.returns-in-Err-clause-none
returns-in-Err-clause-none c =
    subst (ProgramMay (StateHas (λ items z a. ⊥) c.args.text.now (state_of c.args.saved.now))) (sym c.refusal_answer.ensures)
    (refused_schedule c.args.text.now (state_of c.args.saved.now) c.in-Err.error c.in-Err.ensures.refused)

use Rattle.std.proofs.Common.{sym, subst}
use Rattle.ppm_loading.specs.Programs.{ProgramMay}
use Rattle.ppm_outcomes.specs.CountedResumes.{StateHas}
use Rattle.ppm_outcomes.specs.Resumes.{state_of}
use Rattle.ppm_outcomes.proofs.CountedResumeLemmas.{refused_plan, state_may}
use Rattle.ppm_stop_command.proofs.counted_resume.state_answer.Goals as goal

-- the plan is accepted
pub returns-in-Ok : goal.returns-in-Ok
returns-in-Ok g c =
    state_may c.args.options c.args.faults.now (state_of c.args.saved) c.in-Ok.plan.items c.in-Ok.ensures.plan c.planned_answer.result
    c.planned_answer.ensures

-- it is refused
pub returns-in-Err : goal.returns-in-Err
returns-in-Err g c =
    subst (ProgramMay (StateHas c.args.options c.args.faults.now (state_of c.args.saved))) (sym c.refusal_answer.ensures)
    (refused_plan c.args.options c.args.faults.now (state_of c.args.saved) c.in-Err.error c.in-Err.ensures.refused)

use Rattle.std.proofs.Common.{sym, subst}
use Rattle.ppm_loading.specs.Programs.{ProgramMay}
use Rattle.ppm_outcomes.specs.Resumes.{StateHas, state_of}
use Rattle.ppm_outcomes.proofs.ResumeLemmas.{refused_plan, state_may, state_tells}
use Rattle.ppm_outcomes.proofs.WatchLemmas.{fronts_stay, untold}
use Rattle.ppm_stop_command.proofs.resuming.state_answer.Goals as goal

-- the plan is accepted
pub returns-in-Ok-clause-may : goal.returns-in-Ok-clause-may
returns-in-Ok-clause-may g c =
    state_may c.args.options c.args.faults.now _ _ (state_of c.args.saved) c.in-Ok.plan.items c.in-Ok.ensures.plan c.planned_answer.result
    c.planned_answer.ensures.may

pub returns-in-Ok-clause-told : goal.returns-in-Ok-clause-told
returns-in-Ok-clause-told g c =
    state_tells c.args.options _ _ c.args.faults.now (state_of c.args.saved) c.in-Ok.plan.items c.in-Ok.ensures.plan c.planned_answer.result
    c.planned_answer.ensures.told

-- it is refused, and nobody was told anything
pub returns-in-Err-clause-may : goal.returns-in-Err-clause-may
returns-in-Err-clause-may g c =
    subst (ProgramMay (StateHas c.args.options c.args.faults.now _ _ (state_of c.args.saved))) (sym c.refusal_answer.ensures)
    (refused_plan c.args.options c.args.faults.now _ _ (state_of c.args.saved) c.in-Err.error c.in-Err.ensures.refused)

pub returns-in-Err-clause-told : goal.returns-in-Err-clause-told
returns-in-Err-clause-told g c = untold c.args.saved.shape.processors _ _ c.refusal_answer.result _

pub returns-in-Err-clause-kept : goal.returns-in-Err-clause-kept
returns-in-Err-clause-kept g c = fronts_stay _

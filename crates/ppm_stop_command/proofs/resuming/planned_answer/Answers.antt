use Rattle.ppm_outcomes.specs.Resumes.{state_of}
use Rattle.ppm_outcomes.proofs.ResumeLemmas.{has_kind, items_may, run_tells}
use Rattle.ppm_outcomes.proofs.WatchLemmas.{fronts_stay, others_still}
use Rattle.ppm_stop_command.proofs.resuming.planned_answer.Goals as goal

-- what the run comes to
pub returns-in-Ok-clause-may : goal.returns-in-Ok-clause-may
returns-in-Ok-clause-may g c = items_may c.args.options _ _ c.args.plan.now.items (state_of c.args.saved) c.in-Ok.answer c.in-Ok.ensures.has

pub returns-in-Ok-clause-told : goal.returns-in-Ok-clause-told
returns-in-Ok-clause-told g c =
    run_tells c.args.saved.shape.processors _ c.in-Ok.answer _ _
    (has_kind c.args.options _ _ c.args.plan.now.items (state_of c.args.saved) c.in-Ok.answer c.in-Ok.ensures.has) c.in-Ok.ensures.others

-- the saved finish word stands for nothing
pub returns-then-is_none-clause-told : goal.returns-then-is_none-clause-told
returns-then-is_none-clause-told g c = (tt, others_still c.args.saved.shape.processors _, tt)

pub returns-then-is_none-clause-kept : goal.returns-then-is_none-clause-kept
returns-then-is_none-clause-kept g c = fronts_stay _

-- memory was wanting
pub returns-in-Err-clause-told : goal.returns-in-Err-clause-told
returns-in-Err-clause-told g c = (c.in-Err.ensures.kept, c.in-Err.ensures.others, c.in-Err.ensures.wants)

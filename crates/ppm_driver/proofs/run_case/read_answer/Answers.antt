use Rattle.std.proofs.Common.{map}
use Rattle.ppm_plan.specs.Forms.{plan_form}
use Rattle.ppm_answers.specs.declared.answer.Answer.TheVariants as answers
use Rattle.ppm_outcomes.specs.Runs.{CodeHas}
use Rattle.ppm_orders.proofs.OrdersLemmas.{no_case_task, case_has, case_wants}
use Rattle.ppm_driver.proofs.RunCaseLemmas.{case_kinds, case_tells}
use Rattle.ppm_outcomes.proofs.RunLemmas.{of_code, run_tells}
use Rattle.ppm_outcomes.proofs.WatchLemmas.{fronts_stay, untold}
use Rattle.ppm_driver.proofs.run_case.read_answer.Goals as goal

-- what the run of the case comes to, by the plan's items
pub returns-in-Ok-ran_case-clause-may : goal.returns-in-Ok-ran_case-clause-may
returns-in-Ok-ran_case-clause-may g c =
    case_has plan_form c.args.faults.now c.args.options.processors (CodeHas c.args.options c.args.options.processors _ _)
    (case_kinds c.args.options.processors) (of_code c.args.options c.args.options.processors _ _) c.read_task.ensures.one c.in-Ok.plan.items
    c.in-Ok.ensures.accepted _ c.in-Ok.ensures.said.0 c.in-Ok.ensures.said.1 c.in-Ok.case.code c.in-Ok.case.input c.in-Ok.ensures.said.2
    c.in-Ok-ran_case.answer c.in-Ok-ran_case.ensures.has

pub returns-in-Ok-ran_case-clause-told : goal.returns-in-Ok-ran_case-clause-told
returns-in-Ok-ran_case-clause-told g c =
    case_tells c.args.options c.args.options.processors _ _ c.in-Ok.plan.items c.in-Ok.case.code c.in-Ok.case.input _ c.in-Ok.ensures.said
    c.args.faults.now c.in-Ok.ensures.accepted c.in-Ok-ran_case.answer
    (run_tells c.args.options.processors _ c.in-Ok-ran_case.answer _ _
    (of_code c.args.options c.args.options.processors _ _ c.in-Ok.plan.items c.in-Ok.case.code c.in-Ok.case.input c.in-Ok-ran_case.answer
    c.in-Ok-ran_case.ensures.has)
    c.in-Ok-ran_case.ensures.others)

-- memory was wanting in it
pub returns-in-Ok-clause-may : goal.returns-in-Ok-clause-may
returns-in-Ok-clause-may g c =
    let before = map g.W.Watch.told c.args.watch.now.items in
    let now = map g.W.Watch.told c.ran_case.new.watch.items in
    case_wants plan_form c.args.faults.now c.args.options.processors (CodeHas c.args.options c.args.options.processors before now)
    (case_kinds c.args.options.processors) (of_code c.args.options c.args.options.processors before now) c.read_task.ensures.one c.in-Ok.plan.items
    c.in-Ok.ensures.accepted _ c.in-Ok.ensures.said.0 c.in-Ok.ensures.said.1 c.in-Ok.case.code c.in-Ok.case.input c.in-Ok.ensures.said.2

pub returns-in-Ok-clause-told : goal.returns-in-Ok-clause-told
returns-in-Ok-clause-told g c =
    case_tells c.args.options c.args.options.processors _ _ c.in-Ok.plan.items c.in-Ok.case.code c.in-Ok.case.input _ c.in-Ok.ensures.said
    c.args.faults.now c.in-Ok.ensures.accepted answers.NoMemory
    (c.in-Err-ran_case.ensures.kept, c.in-Err-ran_case.ensures.others, c.in-Err-ran_case.ensures.wants)

-- nothing was run, and nobody was told anything
pub returns-clause-may : goal.returns-clause-may
returns-clause-may g c =
    no_case_task plan_form c.args.faults.now c.args.options.processors (CodeHas c.args.options c.args.options.processors _ _) _ c.in-Err.answer
    c.in-Err.ensures.none

pub returns-clause-told : goal.returns-clause-told
returns-clause-told g c = untold c.args.options.processors _ _ c.in-Err.answer _

pub returns-clause-kept : goal.returns-clause-kept
returns-clause-kept g c = fronts_stay _

use Rattle.ppm_plan.specs.Forms.{plan_form}
use Rattle.ppm_outcomes.specs.CountedRuns.{CodeHas}
use Rattle.ppm_outcomes.proofs.CountedLemmas.{case_kinds, of_code}
use Rattle.ppm_orders.proofs.OrdersLemmas.{no_case_task, case_has, case_wants}
use Rattle.ppm_driver.proofs.counted_run_case.read_answer.Goals as goal

-- what the run of the case comes to, by the plan's items
pub returns-in-Ok-counted_case : goal.returns-in-Ok-counted_case
returns-in-Ok-counted_case g c =
    case_has plan_form c.args.faults.now c.args.options.processors (CodeHas c.args.options) case_kinds (of_code c.args.options) c.read_task.ensures.one
    c.in-Ok.plan.items c.in-Ok.ensures.accepted _ c.in-Ok.ensures.said.0 c.in-Ok.ensures.said.1 c.in-Ok.case.code c.in-Ok.case.input
    c.in-Ok.ensures.said.2 c.in-Ok-counted_case.answer c.in-Ok-counted_case.ensures

-- memory was wanting in it
pub returns-in-Ok : goal.returns-in-Ok
returns-in-Ok g c =
    case_wants plan_form c.args.faults.now c.args.options.processors (CodeHas c.args.options) case_kinds (of_code c.args.options)
    c.read_task.ensures.one c.in-Ok.plan.items c.in-Ok.ensures.accepted _ c.in-Ok.ensures.said.0 c.in-Ok.ensures.said.1 c.in-Ok.case.code
    c.in-Ok.case.input c.in-Ok.ensures.said.2

-- nothing was run
pub returns : goal.returns
returns g c = no_case_task plan_form c.args.faults.now c.args.options.processors (CodeHas c.args.options) _ c.in-Err.answer c.in-Err.ensures.none

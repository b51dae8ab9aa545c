use Rattle.ppm_tree.specs.Tree.{tree_of}
use Rattle.ppm_plan.specs.Forms.{plan_form}
use Rattle.ppm_outcomes.specs.CountedRuns.{ProgramHas}
use Rattle.ppm_outcomes.proofs.CountedLemmas.{kinds, of_program}
use Rattle.ppm_orders.proofs.OrdersLemmas.{no_task, task_has, task_wants}
use Rattle.ppm_driver.proofs.counted_run.read_answer.Goals as goal

-- what the run of the program comes to, by the plan's items
pub returns-in-Ok-counted : goal.returns-in-Ok-counted
returns-in-Ok-counted g c =
    task_has plan_form c.args.faults.now c.args.options.processors (ProgramHas c.args.options) kinds (of_program c.args.options)
    c.read_task.ensures.one c.in-Ok.plan.items c.in-Ok.ensures.accepted _ (tree_of c.in-Ok.program) c.in-Ok.ensures.said c.in-Ok-counted.answer
    c.in-Ok-counted.ensures

-- memory was wanting in it
pub returns-in-Ok : goal.returns-in-Ok
returns-in-Ok g c =
    task_wants plan_form c.args.faults.now c.args.options.processors (ProgramHas c.args.options) kinds (of_program c.args.options)
    c.read_task.ensures.one c.in-Ok.plan.items c.in-Ok.ensures.accepted _ (tree_of c.in-Ok.program) c.in-Ok.ensures.said

-- nothing was run
pub returns : goal.returns
returns g c = no_task plan_form c.args.faults.now c.args.options.processors (ProgramHas c.args.options) _ c.in-Err.answer c.in-Err.ensures.none

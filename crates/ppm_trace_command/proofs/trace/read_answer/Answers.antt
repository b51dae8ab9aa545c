use Rattle.std.proofs.Common.{sym, ap, subst}
use Rattle.ppm_tree.specs.Tree.{tree_of}
use Rattle.ppm_plan.specs.Forms.{schedule_form}
use Rattle.ppm_answers.specs.declared.answer.Answer.TheVariants as answers
use Rattle.ppm_trace_command.specs.Traces.{ProgramHas}
use Rattle.ppm_orders.proofs.OrdersLemmas.{no_task, task_has, task_wants}
use Rattle.ppm_trace_command.proofs.TraceLemmas.{kinds, of_program}
use Rattle.ppm_trace_command.proofs.trace.read_answer.Goals as goal

-- what is told of the program's run, by the schedule's items
pub returns-in-Ok-traced : goal.returns-in-Ok-traced
returns-in-Ok-traced g c =
    task_has schedule_form c.args.schedule.now c.args.options.processors (ProgramHas c.args.options) kinds (of_program c.args.options)
    c.read_task.ensures.one c.in-Ok.schedule.items c.in-Ok.ensures.accepted _ (tree_of c.in-Ok.program) c.in-Ok.ensures.said _
    (subst (ProgramHas c.args.options c.in-Ok.schedule.items (tree_of c.in-Ok.program)) (ap (λ x. answers.Traced x) (sym c.from_vec.ensures))
    c.in-Ok-traced.ensures)

-- memory was wanting in it
pub returns-in-Ok : goal.returns-in-Ok
returns-in-Ok g c =
    task_wants schedule_form c.args.schedule.now c.args.options.processors (ProgramHas c.args.options) kinds (of_program c.args.options)
    c.read_task.ensures.one c.in-Ok.schedule.items c.in-Ok.ensures.accepted _ (tree_of c.in-Ok.program) c.in-Ok.ensures.said

-- nothing was run
pub returns : goal.returns
returns g c = no_task schedule_form c.args.schedule.now c.args.options.processors (ProgramHas c.args.options) _ c.in-Err.answer c.in-Err.ensures.none

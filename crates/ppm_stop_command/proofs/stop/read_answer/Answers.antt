use Rattle.std.proofs.Common.{sym, ap, subst}
use Rattle.ppm_tree.specs.Tree.{tree_of}
use Rattle.ppm_plan.specs.Forms.{schedule_form}
use Rattle.ppm_answers.specs.declared.answer.Answer.TheVariants as answers
use Rattle.ppm_outcomes.specs.Stops.{ProgramReads}
use Rattle.ppm_orders.proofs.OrdersLemmas.{no_task, task_has, task_wants}
use Rattle.ppm_stop_command.proofs.StopLemmas.{kinds, of_reading}
use Rattle.ppm_stop_command.proofs.stop.read_answer.Goals as goal

-- the saved text of the program's run, by the schedule's items
pub returns-in-Ok-stopped : goal.returns-in-Ok-stopped
returns-in-Ok-stopped g c =
    task_has schedule_form c.args.schedule.now c.args.options.processors (ProgramReads c.args.options) kinds (of_reading c.args.options)
    c.read_task.ensures.one c.in-Ok.schedule.items c.in-Ok.ensures.accepted _ (tree_of c.in-Ok.program) c.in-Ok.ensures.said _
    (subst (ProgramReads c.args.options c.in-Ok.schedule.items (tree_of c.in-Ok.program)) (ap (λ x. answers.Saved x) (sym c.from_vec.ensures))
    c.in-Ok-stopped.ensures)

-- memory was wanting in it
pub returns-in-Ok : goal.returns-in-Ok
returns-in-Ok g c =
    task_wants schedule_form c.args.schedule.now c.args.options.processors (ProgramReads c.args.options) kinds (of_reading c.args.options)
    c.read_task.ensures.one c.in-Ok.schedule.items c.in-Ok.ensures.accepted _ (tree_of c.in-Ok.program) c.in-Ok.ensures.said

-- nothing was run
pub returns : goal.returns
returns g c = no_task schedule_form c.args.schedule.now c.args.options.processors (ProgramReads c.args.options) _ c.in-Err.answer c.in-Err.ensures.none

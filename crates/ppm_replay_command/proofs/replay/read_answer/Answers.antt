use Rattle.ppm_tree.specs.Tree.{tree_of}
use Rattle.ppm_plan.specs.Forms.{schedule_form}
use Rattle.ppm_outcomes.specs.Replays.{ProgramHas}
use Rattle.ppm_orders.proofs.OrdersLemmas.{no_task, task_has, task_wants}
use Rattle.ppm_outcomes.proofs.ReplayLemmas.{kinds, of_program}
use Rattle.ppm_replay_command.proofs.replay.read_answer.Goals as goal

-- what the replay of the program comes to, by the schedule's items
pub returns-in-Ok-replayed : goal.returns-in-Ok-replayed
returns-in-Ok-replayed g c =
    task_has schedule_form c.args.schedule.now c.args.options.processors (ProgramHas c.args.options) (kinds c.args.options.processors c.args.options.turns) (of_program c.args.options)
    c.read_task.ensures.one c.in-Ok.schedule.items c.in-Ok.ensures.accepted _ (tree_of c.in-Ok.program) c.in-Ok.ensures.said c.in-Ok-replayed.answer
    c.in-Ok-replayed.ensures

-- memory was wanting in it
pub returns-in-Ok : goal.returns-in-Ok
returns-in-Ok g c =
    task_wants schedule_form c.args.schedule.now c.args.options.processors (ProgramHas c.args.options) (kinds c.args.options.processors c.args.options.turns) (of_program c.args.options)
    c.read_task.ensures.one c.in-Ok.schedule.items c.in-Ok.ensures.accepted _ (tree_of c.in-Ok.program) c.in-Ok.ensures.said

-- nothing was run
pub returns : goal.returns
returns g c = no_task schedule_form c.args.schedule.now c.args.options.processors (ProgramHas c.args.options) _ c.in-Err.answer c.in-Err.ensures.none

use Rattle.ppm_plan.specs.Forms.{schedule_form}
use Rattle.ppm_outcomes.specs.Replays.{CodeHas}
use Rattle.ppm_orders.proofs.OrdersLemmas.{no_case_task, case_has, case_wants}
use Rattle.ppm_outcomes.proofs.ReplayLemmas.{of_code}
use Rattle.ppm_replay_command.proofs.OneReplayCase.{replay_kinds}
use Rattle.ppm_replay_command.proofs.replay_case.read_answer.Goals as goal

-- what the replay of the case comes to, by the schedule's items
pub returns-in-Ok-replayed_case : goal.returns-in-Ok-replayed_case
returns-in-Ok-replayed_case g c =
    case_has schedule_form c.args.schedule.now c.args.options.processors (CodeHas c.args.options)
    (replay_kinds c.args.options.processors c.args.options.turns) (of_code c.args.options) c.read_task.ensures.one c.in-Ok.schedule.items
    c.in-Ok.ensures.accepted _ c.in-Ok.ensures.said.0 c.in-Ok.ensures.said.1 c.in-Ok.case.code c.in-Ok.case.input c.in-Ok.ensures.said.2
    c.in-Ok-replayed_case.answer c.in-Ok-replayed_case.ensures

-- memory was wanting in it
pub returns-in-Ok : goal.returns-in-Ok
returns-in-Ok g c =
    case_wants schedule_form c.args.schedule.now c.args.options.processors (CodeHas c.args.options)
    (replay_kinds c.args.options.processors c.args.options.turns) (of_code c.args.options) c.read_task.ensures.one c.in-Ok.schedule.items
    c.in-Ok.ensures.accepted _ c.in-Ok.ensures.said.0 c.in-Ok.ensures.said.1 c.in-Ok.case.code c.in-Ok.case.input c.in-Ok.ensures.said.2

-- nothing was run
pub returns : goal.returns
returns g c =
    no_case_task schedule_form c.args.schedule.now c.args.options.processors (CodeHas c.args.options) _ c.in-Err.answer c.in-Err.ensures.none

use Rattle.std.proofs.Common.{sym, ap, subst}
use Rattle.ppm_plan.specs.Forms.{schedule_form}
use Rattle.ppm_answers.specs.declared.answer.Answer.TheVariants as answers
use Rattle.ppm_outcomes.specs.Stops.{CodeReads}
use Rattle.ppm_stop_command.proofs.CaseNamesLemmas.{names_are}
use Rattle.ppm_orders.proofs.OrdersLemmas.{no_case_task, case_has, case_wants}
use Rattle.ppm_stop_command.proofs.StopLemmas.{case_kinds, of_code_read}
use Rattle.ppm_stop_command.proofs.stop_case.read_answer.Goals as goal

-- the arrays of a case have names of their own
pub stopped_case-requires-clause-names : goal.stopped_case-requires-clause-names
stopped_case-requires-clause-names g c =
    names_are c.in-Ok.ensures.said.0 c.in-Ok.case.code c.in-Ok.case.input c.in-Ok.ensures.said.2

-- the saved text of the case's run, by the schedule's items
pub returns-in-Ok-stopped_case : goal.returns-in-Ok-stopped_case
returns-in-Ok-stopped_case g c =
    case_has schedule_form c.args.schedule.now c.args.options.processors (CodeReads c.args.options) case_kinds (of_code_read c.args.options)
    c.read_task.ensures.one c.in-Ok.schedule.items c.in-Ok.ensures.accepted _ c.in-Ok.ensures.said.0 c.in-Ok.ensures.said.1 c.in-Ok.case.code
    c.in-Ok.case.input c.in-Ok.ensures.said.2 _
    (subst (CodeReads c.args.options c.in-Ok.schedule.items c.in-Ok.case.code c.in-Ok.case.input) (ap (λ x. answers.Saved x) (sym c.from_vec.ensures))
    c.in-Ok-stopped_case.ensures)

-- memory was wanting in it
pub returns-in-Ok : goal.returns-in-Ok
returns-in-Ok g c =
    case_wants schedule_form c.args.schedule.now c.args.options.processors (CodeReads c.args.options) case_kinds (of_code_read c.args.options)
    c.read_task.ensures.one c.in-Ok.schedule.items c.in-Ok.ensures.accepted _ c.in-Ok.ensures.said.0 c.in-Ok.ensures.said.1 c.in-Ok.case.code
    c.in-Ok.case.input c.in-Ok.ensures.said.2

-- nothing was run
pub returns : goal.returns
returns g c =
    no_case_task schedule_form c.args.schedule.now c.args.options.processors (CodeReads c.args.options) _ c.in-Err.answer c.in-Err.ensures.none

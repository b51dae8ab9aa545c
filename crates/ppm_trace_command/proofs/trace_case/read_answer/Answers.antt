use Rattle.std.proofs.Common.{sym, ap, subst}
use Rattle.ppm_plan.specs.Forms.{schedule_form}
use Rattle.ppm_answers.specs.declared.answer.Answer.TheVariants as answers
use Rattle.ppm_trace_command.specs.CaseTraces.{CaseHas}
use Rattle.ppm_orders.proofs.OrdersLemmas.{no_case_task, case_has, case_wants}
use Rattle.ppm_trace_command.proofs.TraceLemmas.{case_kinds, of_case}
use Rattle.ppm_trace_command.proofs.trace_case.read_answer.Goals as goal

-- what is told of the case's run, by the schedule's items
pub returns-in-Ok-traced_case : goal.returns-in-Ok-traced_case
returns-in-Ok-traced_case g c =
    case_has schedule_form c.args.schedule.now c.args.options.processors (CaseHas c.args.options) case_kinds (of_case c.args.options)
    c.read_task.ensures.one c.in-Ok.schedule.items c.in-Ok.ensures.accepted _ c.in-Ok.ensures.said.0 c.in-Ok.ensures.said.1 c.in-Ok.case.code
    c.in-Ok.case.input c.in-Ok.ensures.said.2 _
    (subst (CaseHas c.args.options c.in-Ok.schedule.items c.in-Ok.case.code c.in-Ok.case.input) (ap (λ x. answers.Traced x) (sym c.from_vec.ensures))
    c.in-Ok-traced_case.ensures)

-- memory was wanting in it
pub returns-in-Ok : goal.returns-in-Ok
returns-in-Ok g c =
    case_wants schedule_form c.args.schedule.now c.args.options.processors (CaseHas c.args.options) case_kinds (of_case c.args.options)
    c.read_task.ensures.one c.in-Ok.schedule.items c.in-Ok.ensures.accepted _ c.in-Ok.ensures.said.0 c.in-Ok.ensures.said.1 c.in-Ok.case.code
    c.in-Ok.case.input c.in-Ok.ensures.said.2

-- nothing was run
pub returns : goal.returns
returns g c =
    no_case_task schedule_form c.args.schedule.now c.args.options.processors (CaseHas c.args.options) _ c.in-Err.answer c.in-Err.ensures.none

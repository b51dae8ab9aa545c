use Rattle.std.proofs.Common.{rules, sym, subst}
use Rattle.ppm_ports.specs.Ports.{port}
use Rattle.ppm_answers.proofs.Delivered.{left_alone}
use Rattle.ppm_loading.proofs.PlannedLemmas.{refused_may}
use Rattle.ppm_orders.specs.Orders.{NoTaskMay}
use Rattle.ppm_orders.proofs.OrdersLemmas.{nothing_read}
use Rattle.ppm_orders.proofs.orders.read_task.Goals as goal

-- the orders are accepted, and what was read says nothing to run
pub returns-in_err-task-in-Ok-clause-none : goal.returns-in_err-task-in-Ok-clause-none
returns-in_err-task-in-Ok-clause-none g c =
    let may = nothing_read g.O.Orders.form c.args.text.now c.args.processors g.T.Task.limit g.T.Task.refused g.T.Task.plain
    (g.O.Orders.one c.have_one_answer.ensures.law) (g.O.Orders.items c.in-Ok.orders) c.in-Ok.ensures.accepted _ c.in_err-task-in-Ok.field-0.0
    c.in_err-task-in-Ok.ensures.none in
    search rules

pub returns-in_err-task-in-Ok-clause-one : goal.returns-in_err-task-in-Ok-clause-one
returns-in_err-task-in-Ok-clause-one g c = g.O.Orders.one c.have_one_answer.ensures.law

-- and what was read says a task
pub returns-in_ok-task-in-Ok-clause-one : goal.returns-in_ok-task-in-Ok-clause-one
returns-in_ok-task-in-Ok-clause-one g c = g.O.Orders.one c.have_one_answer.ensures.law

-- they are refused, and nothing was read
pub returns-in-Err-clause-none : goal.returns-in-Err-clause-none
returns-in-Err-clause-none g c =
    subst (NoTaskMay g.O.Orders.form c.args.text.now c.args.processors g.T.Task.limit g.T.Task.refused
    (port g.S.Source.left g.S.Source.fault_count c.args.source.now c.args.source.now))
    (sym c.refusal_answer.ensures)
    (refused_may g.O.Orders.form c.args.text.now c.args.processors (λ items. g.T.Task.refused) g.T.Task.limit c.in-Err.error
    c.in-Err.ensures.refused _ (left_alone g.S.Source.left g.S.Source.fault_count c.args.source.now))

pub returns-in-Err-clause-one : goal.returns-in-Err-clause-one
returns-in-Err-clause-one g c = g.O.Orders.one c.have_one_answer.ensures.law

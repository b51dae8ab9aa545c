use Rattle.ppm_explained.proofs.OrdersRows.{delivered, orders_rows}
use Rattle.ppm_explained.proofs.orders.explain_orders_command.Goals as goal

-- the answer was delivered, or out of memory in its place, and the rows follow from it
pub returns : goal.returns
returns g c source u =
    let d = delivered c.args.options c.args.text.now _ u _ _ c.orders_answer-answer.ensures c.deliver.ensures in
    record { delivers = d; rows = orders_rows c.args.options c.args.text.now _ (c.orders_have_one_answer.ensures.law c.args.options c.args.text.now) _ d }

-- Turn by turn.
use Rattle.std.proofs.Common.{◌≡◌, ◌∙◌, ℕ, length, sym, subst, nat_lt, is_none, arith, ltb-true}
use Rattle.std.proofs.lemmas.Bool.{and_parts}
use Rattle.ppm_interleaving.specs.Shows.{finish_in}
use Rattle.ppm_strand_runs.specs.Order.{IsNext, left_of}
use Rattle.ppm_strand_runs.proofs.RunLemmas.{reached_start, reached_more, ends}
use Rattle.ppm_strand_runs.proofs.running.run_strands.Goals as goal

-- before any turn
pub loop-order-init : goal.loop-order-init
loop-order-init c =
    reached_start c.args.code.now c.args.input.now c.args.schedule.now c.args.turns _ _ _ c.in_ok-run.ensures c.new-order.ensures.turns
    c.new-order.ensures.next

-- a turn more
pub loop-order-smaller : goal.loop-order-smaller
loop-order-smaller c =
    let tests = and_parts (nat_lt c.loop-order.run.turns c.args.turns) (is_none (finish_in c.loop-order.run.machine.strands.items 0))
    (sym c.goes_on.ensures ∙ c.loop-order-test.true) in
    omega (arith, c.in_ok-make.ensures.turns, ltb-true c.loop-order.run.turns c.args.turns tests.0)

pub loop-order-preserved : goal.loop-order-preserved
loop-order-preserved c =
    let counted : c.len.result ≡ length c.loop-order.run.machine.strands.items =
    omega (arith, c.len.ensures, c.loop-order.run.machine.strands.ok.0) in
    reached_more c.args.code.now c.args.input.now c.args.schedule.now c.args.turns c.loop-order.run _ _ _ _ _ c.next-next.result.turn
    c.loop-order.invariant (sym c.goes_on.ensures ∙ c.loop-order-test.true)
    (subst (λ (strands : ℕ).
    IsNext (left_of c.loop-order.order.turn c.loop-order.order.times c.loop-order.order.items.now) c.loop-order.order.next strands c.next-next.result.turn
    (left_of c.next-next.result.order.turn c.next-next.result.order.times c.next-next.result.order.items.now) c.next-next.result.order.next)
    counted c.next-next.ensures)
    c.in_ok-make.ensures.adds

-- the end
pub returns : goal.returns
returns c =
    ends c.args.code.now c.args.input.now c.args.schedule.now c.args.turns c.loop-order.run _ _ c.loop-order.invariant
    (sym c.goes_on.ensures ∙ c.loop-order-test.false)

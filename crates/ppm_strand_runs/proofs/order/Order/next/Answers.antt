-- By the items that are left.
use Rattle.std.proofs.Common.{rules, ◌≡◌, refl, ap, length, arith}
use Rattle.ppm_strand_runs.proofs.OrderLemmas.{by_schedule, by_round, by_item, none_left, some_left}
use Rattle.ppm_strand_runs.proofs.order.Order.next.Goals as goal

pub loop-times-init : goal.loop-times-init
loop-times-init c = refl

-- none is left
pub returns-in_default : goal.returns-in_default
returns-in_default c =
    let same : c.from.result ≡ c.whose-strand.result = search rules in
    by_round _ c.loop-times.turn c.loop-times.times c.loop-times.left.now _ _ c.whose-strand.result c.from.result c.loop-times.invariant
    c.loop-times-test.true (none_left c.loop-times.left.now c.in_default.ensures.cases) c.whose-strand.ensures same

-- one item more
pub loop-times-smaller : goal.loop-times-smaller
loop-times-smaller c = omega (arith, ap (λ l. length l) c.in-Some.ensures.cases.0)

pub loop-times-preserved : goal.loop-times-preserved
loop-times-preserved c =
    by_item _ c.loop-times.turn c.turn_of-turn.result c.loop-times.times _ c.loop-times.left.now c.in-Some.rest.now c.in-Some.item.now c.loop-times.invariant
    c.loop-times-test.true c.in-Some.ensures.cases.0 c.turn_of-turn.ensures refl

-- the next turn of an item
pub returns : goal.returns
returns c =
    by_schedule _ c.loop-times.turn c.loop-times.times c.loop-times.left.now _ _ c.loop-times.invariant
    (some_left c.loop-times.times c.loop-times-test.false)

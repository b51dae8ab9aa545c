use Rattle.std.proofs.Common.{false, ◌≡◌, ◌∙◌, ap, subst}
use Rattle.ppm_step.specs.declared.row.Seat.{Seat}
use Rattle.ppm_step.specs.Standings.{running}
use Rattle.ppm_table.specs.Run.{stands_by, deeds_in}
use Rattle.ppm_stretch.specs.declared.way.RoundEnd.{RoundEnd}
use Rattle.ppm_stretch.specs.Asking.{HasFilled, rest_asking}
use Rattle.ppm_stretch.proofs.SteadyLemmas.{row_makes, row_stops}
use Rattle.ppm_stretch.proofs.asking.fills.Goals as goal

pub fill_along-circuit-requires-clause-stands : goal.fill_along-circuit-requires-clause-stands
fill_along-circuit-requires-clause-stands g c κs within =
    let under_way = c.args.under_way in
    let seat : Seat = record { own = c.args.local.now.own; place = under_way.seat.place; restart = under_way.seat.restart } in
    let same : under_way.seat ≡ seat = λ i. record { own = c.requires.own i; place = under_way.seat.place; restart = under_way.seat.restart } in
    c.requires.stands
    ∙ ap (λ (x : Seat). running c.args.shape.now x (rest_asking c.args.shape.now c.args.code.now x under_way.home under_way.capsule under_way.next c.args.asked c.args.local.now.registers)) same

pub wait_halted-requires-clause-halts : goal.wait_halted-requires-clause-halts
wait_halted-requires-clause-halts g c =
    let k = c.args.words.now.shared.key in
    let seat : Seat = record { own = c.args.local.now.own; place = c.args.under_way.seat.place; restart = c.args.under_way.seat.restart } in
    let went = c.fill_along-circuit in
    let filled = subst (λ (end : RoundEnd). HasFilled g.W.Watch.told k c.args.shape.now c.args.code.now seat went.new.home went.new.registers
    c.args.mine.now.me went.new.mine.me c.args.watch.now went.new.watch c.args.most went.result.made end) c.in-Halts.is went.ensures.filled in
    (stands_by k c.args.local.now.own (deeds_in went.new.mine.me.0), filled.1)

pub returns-in-Halts-clause-makes : goal.returns-in-Halts-clause-makes
returns-in-Halts-clause-makes g c =
    let k = c.args.words.now.shared.key in
    let seat : Seat = record { own = c.args.local.now.own; place = c.args.under_way.seat.place; restart = c.args.under_way.seat.restart } in
    let went = c.fill_along-circuit in
    let filled = subst (λ (end : RoundEnd). HasFilled g.W.Watch.told k c.args.shape.now c.args.code.now seat went.new.home went.new.registers
    c.args.mine.now.me went.new.mine.me c.args.watch.now went.new.watch c.args.most went.result.made end) c.in-Halts.is went.ensures.filled in
    row_makes g.W.Watch.told k c.args.local.now.own c.args.mine.now.me went.new.mine.me c.args.watch.now went.new.watch went.result.made went.result.made 0 false c.row.result c.row.ensures filled.0

pub returns-in-Halts-clause-stops : goal.returns-in-Halts-clause-stops
returns-in-Halts-clause-stops g c =
    let went = c.fill_along-circuit in
    row_stops g.W.Watch.told c.args.words.now.shared.key c.args.local.now.own c.args.mine.now.me went.new.mine.me c.args.watch.now went.new.watch went.result.made went.result.made 0 false
    c.args.most c.row.result c.row.ensures

pub returns-in-Halts-clause-stands_on : goal.returns-in-Halts-clause-stands_on
returns-in-Halts-clause-stands_on g c =
    let k = c.args.words.now.shared.key in
    let seat : Seat = record { own = c.args.local.now.own; place = c.args.under_way.seat.place; restart = c.args.under_way.seat.restart } in
    let went = c.fill_along-circuit in
    let filled = subst (λ (end : RoundEnd). HasFilled g.W.Watch.told k c.args.shape.now c.args.code.now seat went.new.home went.new.registers
    c.args.mine.now.me went.new.mine.me c.args.watch.now went.new.watch c.args.most went.result.made end) c.in-Halts.is went.ensures.filled in
    c.wait_halted.ensures.stands (stands_by k c.args.local.now.own (deeds_in went.new.mine.me.0)) filled.1

pub withdraw-requires-clause-lives : goal.withdraw-requires-clause-lives
withdraw-requires-clause-lives g c =
    let seat : Seat = record { own = c.args.local.now.own; place = c.args.under_way.seat.place; restart = c.args.under_way.seat.restart } in
    let went = c.fill_along-circuit in
    let filled = subst (λ (end : RoundEnd). HasFilled g.W.Watch.told c.args.words.now.shared.key c.args.shape.now c.args.code.now seat went.new.home went.new.registers
    c.args.mine.now.me went.new.mine.me c.args.watch.now went.new.watch c.args.most went.result.made end) c.in-Refused.is went.ensures.filled in
    filled.stays

pub returns-in-Refused-clause-stops : goal.returns-in-Refused-clause-stops
returns-in-Refused-clause-stops g c = λ refused.
    let seat : Seat = record { own = c.args.local.now.own; place = c.args.under_way.seat.place; restart = c.args.under_way.seat.restart } in
    let went = c.fill_along-circuit in
    record {
      lives = c.in-Refused.lives;
      behind = went.new.mine.me;
      refuses = subst (λ (end : RoundEnd). HasFilled g.W.Watch.told c.args.words.now.shared.key c.args.shape.now c.args.code.now seat went.new.home went.new.registers
          c.args.mine.now.me went.new.mine.me c.args.watch.now went.new.watch c.args.most went.result.made end) c.in-Refused.is went.ensures.filled;
      quits = c.withdraw.ensures.quits;
    }

-- no frame goes round there
pub unreachable-requires : goal.unreachable-requires
unreachable-requires g c =
    let seat : Seat = record { own = c.args.local.now.own; place = c.args.under_way.seat.place; restart = c.args.under_way.seat.restart } in
    let went = c.fill_along-circuit in
    subst (λ (end : RoundEnd). HasFilled g.W.Watch.told c.args.words.now.shared.key c.args.shape.now c.args.code.now seat went.new.home went.new.registers
    c.args.mine.now.me went.new.mine.me c.args.watch.now went.new.watch c.args.most went.result.made end) c.in-Round.is went.ensures.filled

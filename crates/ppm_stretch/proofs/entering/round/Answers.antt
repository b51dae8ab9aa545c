use Rattle.std.proofs.Common.{◌≡◌, ◌+◌, ◌-◌, true, refl, sym, subst, arith}
use Rattle.ppm_stretch.specs.declared.way.Circuit.{Circuit}
use Rattle.ppm_stretch.specs.declared.way.RoundEnd.{RoundEnd}
use Rattle.ppm_stretch.specs.declared.way.Way.{Way}
use Rattle.ppm_stretch.specs.Entering.{Circled}
use Rattle.ppm_stretch.specs.Steady.{LedTo}
use Rattle.ppm_stretch.proofs.SteadyLemmas.{moves_then, moves_same, refuses_then, refuses_within, no_looks}
use Rattle.ppm_stretch.proofs.RoundLemmas.{begun_then, circled_along}
use Rattle.ppm_stretch.proofs.entering.round.Goals as goal

pub returns-clause-circled : goal.returns-clause-circled
returns-clause-circled g c =
    let k = c.args.words.now.shared.key in
    let stretch = c.in-Some.stretch in
    let along = c.in-Some.ensures.along in
    subst (λ (end : RoundEnd). Circled g.W.Watch.told k c.args.shape.now c.args.code.now c.args.place.now c.args.home.now c.capsule_along.new.registers c.args.mine.now.me c.capsule_along.new.mine.me
    c.args.watch.now c.capsule_along.new.watch c.args.most (stretch.made + 2) (stretch.made + 1) end) (sym c.halt_behind.ensures)
    (circled_along g.W.Watch.told k c.args.shape.now c.args.code.now c.args.place.now c.args.home.now c.in-Entered.number along.0 c.capsule_along.new.registers
    c.args.mine.now.me c.begin.new.mine.me c.capsule_along.new.mine.me c.args.watch.now c.begin.new.watch c.capsule_along.new.watch
    (c.args.most - 2) c.args.most stretch.made stretch.way along.1 (omega (arith, c.requires.most)) c.in-Entered.ensures.begun.0 along.2)

pub returns-clause-on : goal.returns-clause-on
returns-clause-on g c = (omega arith, λ round. omega arith)

pub returns-in-Over-clause-circled : goal.returns-in-Over-clause-circled
returns-in-Over-clause-circled g c = (omega arith, c.in-Over.ensures.begun.0, c.in-Over.ensures.begun.1)

pub returns-in_default-clause-circled : goal.returns-in_default-clause-circled
returns-in_default-clause-circled g c =
    let along = c.in_default.ensures.along in (
      omega arith,
      moves_same g.W.Watch.told c.args.words.now.shared.key c.args.place.now.own c.args.mine.now.me c.begin.new.mine.me c.capsule_along.new.mine.me
          c.args.watch.now c.begin.new.watch c.capsule_along.new.watch 2 1 0 c.in-Entered.ensures.begun.0 along.0 along.1,
      along.2,
    )

pub returns-in-Round-clause-circled : goal.returns-in-Round-clause-circled
returns-in-Round-clause-circled g c =
    let k = c.args.words.now.shared.key in
    let made = c.in-Some.stretch.made in
    let along = c.in-Some.ensures.along in
    let led = subst (λ (way : Way). LedTo g.W.Watch.told k c.args.shape.now c.args.code.now c.args.place.now c.args.home.now along.0.instrs c.capsule_along.new.registers
    c.begin.new.mine.me c.capsule_along.new.mine.me c.begin.new.watch c.capsule_along.new.watch (c.args.most - 2) made way) c.in-Stops.is along.2 in
    let so_far = begun_then g.W.Watch.told k c.args.place.now.own c.args.mine.now.me c.begin.new.mine.me c.capsule_along.new.mine.me c.args.watch.now c.begin.new.watch c.capsule_along.new.watch
    made c.in-Entered.ensures.begun.0 led.0 in
    let third : made + 2 + 2 ≡ made + 4 = omega arith in
    let fourth : made + 1 + 2 ≡ made + 3 = omega arith in
    let turned = c.in-Round.ensures.turned in (
      moves_then g.W.Watch.told k c.args.place.now.own c.args.mine.now.me c.capsule_along.new.mine.me c.go_round.new.mine.me c.args.watch.now c.capsule_along.new.watch c.go_round.new.watch
          (made + 2) 2 (made + 1) 2 0 0 (made + 4) (made + 3) 0 third fourth refl so_far turned.0,
      turned.1,
    )

pub returns-in-Breaks-clause-circled : goal.returns-in-Breaks-clause-circled
returns-in-Breaks-clause-circled g c =
    let k = c.args.words.now.shared.key in
    let made = c.in-Some.stretch.made in
    let along = c.in-Some.ensures.along in
    let led = subst (λ (way : Way). LedTo g.W.Watch.told k c.args.shape.now c.args.code.now c.args.place.now c.args.home.now along.0.instrs c.capsule_along.new.registers
    c.begin.new.mine.me c.capsule_along.new.mine.me c.begin.new.watch c.capsule_along.new.watch (c.args.most - 2) made way) c.in-Stops.is along.2 in
    let so_far = begun_then g.W.Watch.told k c.args.place.now.own c.args.mine.now.me c.begin.new.mine.me c.capsule_along.new.mine.me c.args.watch.now c.begin.new.watch c.capsule_along.new.watch
    made c.in-Entered.ensures.begun.0 led.0 in
    let stored = c.in-Breaks.stored in
    let turned = c.in-Breaks.ensures.turned in (
      omega arith,
      moves_then g.W.Watch.told k c.args.place.now.own c.args.mine.now.me c.capsule_along.new.mine.me c.go_round.new.mine.me c.args.watch.now c.capsule_along.new.watch c.go_round.new.watch
          (made + 2) stored (made + 1) stored 0 0 (made + 2 + stored) (made + 1 + stored) 0 refl refl (no_looks stored) so_far turned.1,
      turned.2,
    )

pub returns-in-Refused-go_round-clause-circled : goal.returns-in-Refused-go_round-clause-circled
returns-in-Refused-go_round-clause-circled g c =
    let k = c.args.words.now.shared.key in
    let made = c.in-Some.stretch.made in
    let along = c.in-Some.ensures.along in
    let led = subst (λ (way : Way). LedTo g.W.Watch.told k c.args.shape.now c.args.code.now c.args.place.now c.args.home.now along.0.instrs c.capsule_along.new.registers
    c.begin.new.mine.me c.capsule_along.new.mine.me c.begin.new.watch c.capsule_along.new.watch (c.args.most - 2) made way) c.in-Stops.is along.2 in
    let so_far = begun_then g.W.Watch.told k c.args.place.now.own c.args.mine.now.me c.begin.new.mine.me c.capsule_along.new.mine.me c.args.watch.now c.begin.new.watch c.capsule_along.new.watch
    made c.in-Entered.ensures.begun.0 led.0 in
    subst (λ (x : Circuit). Circled g.W.Watch.told k c.args.shape.now c.args.code.now c.args.place.now c.args.home.now c.capsule_along.new.registers
    c.args.mine.now.me c.go_round.new.mine.me c.args.watch.now c.go_round.new.watch c.args.most x.made x.work x.end) (sym c.refused-in-Refused-go_round.ensures)
    (refuses_then g.W.Watch.told k c.args.place.now.own c.args.mine.now.me c.capsule_along.new.mine.me c.go_round.new.mine.me c.args.watch.now c.capsule_along.new.watch c.go_round.new.watch
    (made + 2) (made + 1) 0 true 2 c.args.most (omega (arith, c.if-most-made-ge4.true)) so_far c.in-Refused-go_round.ensures.turned)

pub returns-in-Refused-clause-circled : goal.returns-in-Refused-clause-circled
returns-in-Refused-clause-circled g c =
    subst (λ (x : Circuit). Circled g.W.Watch.told c.args.words.now.shared.key c.args.shape.now c.args.code.now c.args.place.now c.args.home.now c.args.registers.now
    c.args.mine.now.me c.begin.new.mine.me c.args.watch.now c.begin.new.watch c.args.most x.made x.work x.end) (sym c.refused.ensures)
    (refuses_within g.W.Watch.told c.args.words.now.shared.key c.args.place.now.own c.args.mine.now.me c.begin.new.mine.me c.args.watch.now c.begin.new.watch
    c.in-Refused.lives 2 c.args.most c.requires.most c.in-Refused.ensures.begun)

use Rattle.std.proofs.Common.{ℕ, ◌∙◌, ◌+◌, ◌-◌, Some, sym, refl, ap, subst, arith}
use Rattle.ppm_cells.specs.declared.restart.RestartKind.{RestartKind}
use Rattle.ppm_cells.specs.declared.shape.Shape.{Shape}
use Rattle.ppm_step.specs.declared.frame.Home.{Home}
use Rattle.ppm_step.specs.declared.row.Seat.{Seat}
use Rattle.ppm_step.specs.Standings.{IsAt}
use Rattle.ppm_table.specs.Run.{stands_by, deeds_in, IsSeat}
use Rattle.ppm_stretch.specs.declared.way.RoundEnd.{RoundEnd}
use Rattle.ppm_stretch.specs.declared.way.RoundEnd.TheVariants.{Round, Halts, Refused}
use Rattle.ppm_stretch.specs.Entering.{Circled, HaltsAt, looks_at}
use Rattle.ppm_stretch.specs.Framing.{HasFramed}
use Rattle.ppm_stretch.specs.Steady.{looks_behind}
use Rattle.ppm_stretch.proofs.FramingLemmas.{framed_as, framed_few, framed_then, framed_works, looks_within}
use Rattle.ppm_stretch.proofs.RoundLemmas.{looks_few}
use Rattle.ppm_stretch.proofs.SteadyLemmas.{moves_then, refuses_then, from_none}
use Rattle.ppm_engine.proofs.WaitingLemmas.{goes_round_fits}
use Rattle.ppm_stretch.proofs.frames.rounds.Goals as goal

pub loop-made-preserved : goal.loop-made-preserved
loop-made-preserved g c =
    let k = c.args.words.now.shared.key in
    let i = c.loop-made.invariant in
    let seat : Seat = record { own = c.args.local.now.own; place = c.args.place; restart = c.loop-made.at } in
    let home : Home = record { frame = c.in-Run.frame; copy = c.in-Run.copy; block = 0 } in
    let made = c.round-circuit.result.made in
    let work = c.round-circuit.result.work in
    let circled = subst (λ (s : Shape). Circled g.W.Watch.told k s c.args.code.now seat home c.round-circuit.new.registers c.loop-made.mine.me c.round-circuit.new.mine.me
    c.loop-made.watch c.round-circuit.new.watch (c.args.most - c.loop-made.made) made work Round) c.requires.sizes (subst (λ (end : RoundEnd). Circled g.W.Watch.told k c.args.sizes.now c.args.code.now seat home c.round-circuit.new.registers c.loop-made.mine.me c.round-circuit.new.mine.me
    c.loop-made.watch c.round-circuit.new.watch (c.args.most - c.loop-made.made) made work end) c.in-Round.is c.round-circuit.ensures.circled) in (
      omega (arith, i.0, c.round-circuit.ensures.few),
      omega (arith, i.1, c.round-circuit.ensures.on.0),
      c.round-circuit.ensures.table ∙ i.2,
      moves_then g.W.Watch.told k c.args.local.now.own c.args.mine.now.me c.loop-made.mine.me c.round-circuit.new.mine.me c.args.watch.now c.loop-made.watch c.round-circuit.new.watch
          c.loop-made.made made c.loop-made.work work 0 0 (c.loop-made.made + made) (c.loop-made.work + work) 0 refl refl (from_none work 0) i.3 circled.0,
      circled.1 ∙ ap (λ (kind : RestartKind). IsAt c.args.place (Some (record { kind = kind; bottom = c.loop-made.at.bottom }))) (sym c.goes_round.ensures),
      goes_round_fits c.loop-made.at c.in-Run.frame c.in-Run.copy c.goes_round.result c.in-Run.is c.goes_round.ensures i.5,
      i.6,
    )

pub returns-in_default : goal.returns-in_default
returns-in_default g c =
    let told = g.W.Watch.told in
    let k = c.args.words.now.shared.key in
    let own = c.args.local.now.own in
    let i = c.loop-made.invariant in
    record {
      table = i.2;
      few = framed_few c.framed.result _ c.args.most c.framed.ensures i.0 i.1 (omega arith);
      framed = framed_as told k c.args.shape.now c.args.code.now own c.args.place c.args.mine.now.me c.loop-made.mine.me c.args.watch.now c.loop-made.watch
          c.loop-made.local c.args.most c.framed.result _ c.framed.ensures (i.3, i.4, i.5);
      own_stays = i.6;
    }

pub returns-in_default-header_of-clause-few : goal.returns-in_default-header_of-clause-few
returns-in_default-header_of-clause-few g c =
    framed_few c.framed-in_default-header_of.result _ c.args.most c.framed-in_default-header_of.ensures c.loop-made.invariant.0 c.loop-made.invariant.1
    (omega arith)

pub returns-in_default-header_of-clause-framed : goal.returns-in_default-header_of-clause-framed
returns-in_default-header_of-clause-framed g c =
    let told = g.W.Watch.told in
    let k = c.args.words.now.shared.key in
    let own = c.args.local.now.own in
    let i = c.loop-made.invariant in
    framed_as told k c.args.shape.now c.args.code.now own c.args.place c.args.mine.now.me c.loop-made.mine.me c.args.watch.now c.loop-made.watch
    c.wait_at.new.local c.args.most c.framed-in_default-header_of.result _ c.framed-in_default-header_of.ensures
    (i.3, c.wait_at.ensures.stands ∙ sym i.4, c.wait_at.ensures.holds)

pub go_behind-behind-requires-clause-sits : goal.go_behind-behind-requires-clause-sits
go_behind-behind-requires-clause-sits g c κs within =
    let told = g.W.Watch.told in
    let k = c.args.words.now.shared.key in
    let own = c.args.local.now.own in
    let i = c.loop-made.invariant in
    let seat : Seat = record { own = own; place = c.args.place; restart = c.loop-made.at } in
    let home : Home = record { frame = c.in-Run.frame; copy = c.in-Run.copy; block = 0 } in
    let went = c.round-circuit in
    let made = went.result.made in
    let work = went.result.work in
    let circled = subst (λ (s : Shape). Circled told k s c.args.code.now seat home went.new.registers c.loop-made.mine.me went.new.mine.me
    c.loop-made.watch went.new.watch (c.args.most - c.loop-made.made) made work (Halts c.in-Halts.halt)) c.requires.sizes (subst (λ (end : RoundEnd). Circled told k c.args.sizes.now c.args.code.now seat home went.new.registers c.loop-made.mine.me went.new.mine.me
    c.loop-made.watch went.new.watch (c.args.most - c.loop-made.made) made work end) c.in-Halts.is went.ensures.circled) in
    subst (λ (n : ℕ). IsSeat n went.new.mine.me) (sym i.6) circled.1.goes.sits

pub go_behind-behind-requires-clause-halts : goal.go_behind-behind-requires-clause-halts
go_behind-behind-requires-clause-halts g c κs within =
    let told = g.W.Watch.told in
    let k = c.args.words.now.shared.key in
    let own = c.args.local.now.own in
    let i = c.loop-made.invariant in
    let seat : Seat = record { own = own; place = c.args.place; restart = c.loop-made.at } in
    let home : Home = record { frame = c.in-Run.frame; copy = c.in-Run.copy; block = 0 } in
    let went = c.round-circuit in
    let made = went.result.made in
    let work = went.result.work in
    let circled = subst (λ (s : Shape). Circled told k s c.args.code.now seat home went.new.registers c.loop-made.mine.me went.new.mine.me
    c.loop-made.watch went.new.watch (c.args.most - c.loop-made.made) made work (Halts c.in-Halts.halt)) c.requires.sizes (subst (λ (end : RoundEnd). Circled told k c.args.sizes.now c.args.code.now seat home went.new.registers c.loop-made.mine.me went.new.mine.me
    c.loop-made.watch went.new.watch (c.args.most - c.loop-made.made) made work end) c.in-Halts.is went.ensures.circled) in
    subst (λ (n : ℕ). HaltsAt c.args.shape.now c.args.code.now seat home went.new.registers c.in-Halts.halt (stands_by k n (deeds_in went.new.mine.me.0)))
    (sym i.6) circled.2

pub framed_behind-requires : goal.framed_behind-requires
framed_behind-requires g c =
    let i = c.loop-made.invariant in
    let few = c.go_behind-behind.ensures.few in
    let looks = looks_few c.in-Halts.halt in (
      omega (arith, i.0, c.round-circuit.ensures.few, few.0, c.ranges.most.fits),
      omega (arith, i.1, c.round-circuit.ensures.on.0),
      omega (arith, few.1),
      omega (arith, c.looks_at.ensures, looks),
    )

pub returns-in-Halts-clause-few : goal.returns-in-Halts-clause-few
returns-in-Halts-clause-few g c =
    let told = g.W.Watch.told in
    let k = c.args.words.now.shared.key in
    let own = c.args.local.now.own in
    let i = c.loop-made.invariant in
    let seat : Seat = record { own = own; place = c.args.place; restart = c.loop-made.at } in
    let home : Home = record { frame = c.in-Run.frame; copy = c.in-Run.copy; block = 0 } in
    let went = c.round-circuit in
    let made = went.result.made in
    let work = went.result.work in
    let circled = subst (λ (s : Shape). Circled told k s c.args.code.now seat home went.new.registers c.loop-made.mine.me went.new.mine.me
    c.loop-made.watch went.new.watch (c.args.most - c.loop-made.made) made work (Halts c.in-Halts.halt)) c.requires.sizes (subst (λ (end : RoundEnd). Circled told k c.args.sizes.now c.args.code.now seat home went.new.registers c.loop-made.mine.me went.new.mine.me
    c.loop-made.watch went.new.watch (c.args.most - c.loop-made.made) made work end) c.in-Halts.is went.ensures.circled) in
    let few = c.go_behind-behind.ensures.few in
    let looks = looks_few c.in-Halts.halt in
    framed_few c.framed_behind.result _ c.args.most c.framed_behind.ensures
    (omega (arith, i.0, went.ensures.few, few.0)) (omega (arith, i.1, went.ensures.on.0, few.1))
    (looks_within c.looks_at.result c.go_behind-behind.result.work _ (omega (arith, c.looks_at.ensures, looks, circled.0)))

pub returns-in-Halts-clause-framed : goal.returns-in-Halts-clause-framed
returns-in-Halts-clause-framed g c =
    let told = g.W.Watch.told in
    let k = c.args.words.now.shared.key in
    let own = c.args.local.now.own in
    let i = c.loop-made.invariant in
    let seat : Seat = record { own = own; place = c.args.place; restart = c.loop-made.at } in
    let home : Home = record { frame = c.in-Run.frame; copy = c.in-Run.copy; block = 0 } in
    let went = c.round-circuit in
    let made = went.result.made in
    let work = went.result.work in
    let circled = subst (λ (s : Shape). Circled told k s c.args.code.now seat home went.new.registers c.loop-made.mine.me went.new.mine.me
    c.loop-made.watch went.new.watch (c.args.most - c.loop-made.made) made work (Halts c.in-Halts.halt)) c.requires.sizes (subst (λ (end : RoundEnd). Circled told k c.args.sizes.now c.args.code.now seat home went.new.registers c.loop-made.mine.me went.new.mine.me
    c.loop-made.watch went.new.watch (c.args.most - c.loop-made.made) made work end) c.in-Halts.is went.ensures.circled) in
    let behind = c.go_behind-behind in
    let few = behind.ensures.few in
    let most = c.args.most - (c.loop-made.made + made) in
    let looks = looks_at c.in-Halts.halt in
    let before = moves_then told k own c.args.mine.now.me c.loop-made.mine.me went.new.mine.me c.args.watch.now c.loop-made.watch went.new.watch
    c.loop-made.made made c.loop-made.work work 0 looks (c.loop-made.made + made) (c.loop-made.work + work) c.looks_at.result refl refl
    (from_none work looks ∙ sym c.looks_at.ensures) i.3 circled.1 in
    let after = subst (λ (n : ℕ). HasFramed told k c.args.shape.now c.args.code.now n c.args.place went.new.mine.me behind.new.mine.me
    went.new.watch behind.new.watch behind.new.local most behind.result.made behind.result.work behind.result.looks behind.result.end) i.6 behind.ensures.framed in
    framed_as told k c.args.shape.now c.args.code.now own c.args.place c.args.mine.now.me behind.new.mine.me c.args.watch.now behind.new.watch
    behind.new.local c.args.most c.framed_behind.result _ c.framed_behind.ensures
    (subst (λ (n : ℕ). HasFramed told k c.args.shape.now c.args.code.now own c.args.place c.args.mine.now.me behind.new.mine.me c.args.watch.now behind.new.watch
    behind.new.local c.args.most (c.loop-made.made + made + behind.result.made) (c.loop-made.work + work + n) (looks_behind c.looks_at.result n 0) behind.result.end)
    (sym few.1)
    (framed_then told k c.args.shape.now c.args.code.now own c.args.place c.args.mine.now.me went.new.mine.me behind.new.mine.me c.args.watch.now went.new.watch
    behind.new.watch behind.new.local most c.args.most (c.loop-made.made + made) (c.loop-made.work + work) c.looks_at.result behind.result.made behind.result.end
    (omega (arith, i.0, went.ensures.few)) before
    (framed_works told k c.args.shape.now c.args.code.now own c.args.place went.new.mine.me behind.new.mine.me went.new.watch behind.new.watch
    behind.new.local most behind.result few.1 few.2 after)))

pub returns-in-Refused-clause-framed : goal.returns-in-Refused-clause-framed
returns-in-Refused-clause-framed g c =
    let told = g.W.Watch.told in
    let k = c.args.words.now.shared.key in
    let own = c.args.local.now.own in
    let i = c.loop-made.invariant in
    let seat : Seat = record { own = own; place = c.args.place; restart = c.loop-made.at } in
    let home : Home = record { frame = c.in-Run.frame; copy = c.in-Run.copy; block = 0 } in
    let went = c.round-circuit in
    let made = went.result.made in
    let work = went.result.work in
    let circled = subst (λ (s : Shape). Circled told k s c.args.code.now seat home went.new.registers c.loop-made.mine.me went.new.mine.me
    c.loop-made.watch went.new.watch (c.args.most - c.loop-made.made) made work (Refused c.in-Refused.lives)) c.requires.sizes (subst (λ (end : RoundEnd). Circled told k c.args.sizes.now c.args.code.now seat home went.new.registers c.loop-made.mine.me went.new.mine.me
    c.loop-made.watch went.new.watch (c.args.most - c.loop-made.made) made work end) c.in-Refused.is went.ensures.circled) in
    framed_as told k c.args.shape.now c.args.code.now own c.args.place c.args.mine.now.me went.new.mine.me c.args.watch.now went.new.watch
    _ c.args.most c.framed-in-Refused.result _ c.framed-in-Refused.ensures
    (refuses_then told k own c.args.mine.now.me c.loop-made.mine.me went.new.mine.me c.args.watch.now c.loop-made.watch went.new.watch
    c.loop-made.made c.loop-made.work 0 c.in-Refused.lives (c.args.most - c.loop-made.made) c.args.most (omega (arith, i.0)) i.3 circled)

pub returns-in-Refused-clause-few : goal.returns-in-Refused-clause-few
returns-in-Refused-clause-few g c =
    framed_few c.framed-in-Refused.result _ c.args.most c.framed-in-Refused.ensures (omega arith) (omega arith) (omega arith)

pub returns-clause-few : goal.returns-clause-few
returns-clause-few g c =
    framed_few c.framed-2.result _ c.args.most c.framed-2.ensures c.loop-made.invariant.0 c.loop-made.invariant.1 (omega arith)

pub returns-clause-framed : goal.returns-clause-framed
returns-clause-framed g c =
    let told = g.W.Watch.told in
    let k = c.args.words.now.shared.key in
    let own = c.args.local.now.own in
    let i = c.loop-made.invariant in
    framed_as told k c.args.shape.now c.args.code.now own c.args.place c.args.mine.now.me c.loop-made.mine.me c.args.watch.now c.loop-made.watch
    c.loop-made.local c.args.most c.framed-2.result _ c.framed-2.ensures (i.3, i.4, i.5)

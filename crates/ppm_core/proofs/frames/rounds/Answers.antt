use Rattle.std.proofs.Common.{◌≡◌, ◌≤◌, ◌∙◌, ◌+◌, sym, ap, subst, arith, Some}
use Rattle.ppm_cells.specs.declared.restart.RestartKind.{RestartKind}
use Rattle.ppm_step.specs.declared.row.Seat.{Seat}
use Rattle.ppm_step.specs.Standings.{Standing, IsAt}
use Rattle.ppm_engine.specs.Waiting.{goes_round}
use Rattle.ppm_core.specs.Rounds.{Circled}
use Rattle.ppm_core.specs.After.{stands_framed}
use Rattle.ppm_core.specs.declared.frames.Framed.{Framed}
use Rattle.ppm_core.specs.declared.frames.RoundEnd.{RoundEnd}
use Rattle.ppm_core.specs.Moments.{moment, StepsTo, NoFurther}
use Rattle.ppm_core.proofs.AfterLemmas.{framed_as, framed_then, too_few}
use Rattle.ppm_core.proofs.CapsuleLemmas.{round_more}
use Rattle.ppm_engine.proofs.WaitingLemmas.{goes_round_fits}
use Rattle.ppm_core.proofs.frames.rounds.Goals as goal

-- a round more, behind which the place goes on with a restart
pub loop-steps-preserved : goal.loop-steps-preserved
loop-steps-preserved c =
    let s = c.args.shape.now in
    let code = c.args.code.now in
    let inv = c.loop-steps.invariant in
    let seat : Seat = record { own = c.args.local.now.own; place = c.args.place; restart = c.loop-steps.at } in
    let coming = c.in-Some.coming in
    let new = c.round-circuit.new in
    let made = c.round-circuit.result.made in
    let circled = subst (λ (end : RoundEnd). Circled s code seat coming new.registers c.loop-steps.words.items new.words.items made end) c.in-Round.is c.round-circuit.ensures.circled in
    let last : IsAt c.args.place (Some (goes_round seat coming.home)) ≡ IsAt c.args.place (Some (record { kind = c.goes_round.result; bottom = c.loop-steps.at.bottom })) =
    ap (λ (kind : RestartKind). IsAt c.args.place (Some (record { kind = kind; bottom = c.loop-steps.at.bottom }))) (sym c.goes_round.ensures) in (
      subst
          (λ (st : Standing). StepsTo s code seat.own (c.loop-steps.steps.made + made + 2) (c.loop-steps.steps.work + made + 1) (moment c.args.words.now.items (IsAt c.args.place (Some c.args.restart))) (moment new.words.items st))
          last (round_more s code seat c.loop-steps.words.items coming inv.0 c.in-Some.ensures circled),
      goes_round_fits c.loop-steps.at coming.home.frame coming.home.copy c.goes_round.result c.in-Some.ensures.kind c.goes_round.ensures inv.1,
      c.round-circuit.ensures.count,
      inv.3,
      omega (arith, c.loop-steps-test.true, c.round-circuit.ensures.few, inv.4),
      omega (arith, inv.5),
    )

-- no capsule is entered
pub returns-in_default-clause-framed : goal.returns-in_default-clause-framed
returns-in_default-clause-framed c =
    framed_as c.args.shape.now c.args.code.now c.args.local.now.own c.args.place (moment c.args.words.now.items (IsAt c.args.place (Some c.args.restart)))
    c.loop-steps.words.items c.loop-steps.local c.installed.result _ c.installed.ensures (record { steps = c.loop-steps.invariant.0; holds = c.loop-steps.invariant.1 })

pub returns-in_default-clause-no_further : goal.returns-in_default-clause-no_further
returns-in_default-clause-no_further c = λ made.
    subst
    (λ (f : Framed). NoFurther c.args.shape.now c.args.code.now c.args.local.now.own c.args.most
    (moment c.loop-steps.words.items (stands_framed c.args.shape.now c.args.code.now c.args.place c.loop-steps.local f.end)))
    (sym c.installed.ensures) (c.in_default.ensures c.args.most)

-- a round more, in which the capsule is left
pub go_after-after-requires-clause-seat : goal.go_after-after-requires-clause-seat
go_after-after-requires-clause-seat c = (c.in-Some.ensures.seat_is, sym c.loop-steps.invariant.3)

pub go_after-after-requires-clause-left : goal.go_after-after-requires-clause-left
go_after-after-requires-clause-left c =
    let seat : Seat = record { own = c.args.local.now.own; place = c.args.place; restart = c.loop-steps.at } in
    let circled = subst (λ (end : RoundEnd). Circled c.args.shape.now c.args.code.now seat c.in-Some.coming c.round-circuit.new.registers c.loop-steps.words.items c.round-circuit.new.words.items c.round-circuit.result.made end)
    c.in-Halts.is c.round-circuit.ensures.circled in
    (circled.0, circled.1)

pub framed_after-requires : goal.framed_after-requires
framed_after-requires c =
    let i = c.loop-steps.invariant in
    let few = c.go_after-after.ensures.few.0 in (
      omega (arith, i.4, c.loop-steps-test.true, c.round-circuit.ensures.few, few, c.ranges.most.fits),
      omega (arith, i.4, i.5, c.loop-steps-test.true, c.round-circuit.ensures.few, few, c.ranges.most.fits),
    )

pub returns-in-Halts-clause-framed : goal.returns-in-Halts-clause-framed
returns-in-Halts-clause-framed c =
    let s = c.args.shape.now in
    let code = c.args.code.now in
    let seat : Seat = record { own = c.args.local.now.own; place = c.args.place; restart = c.loop-steps.at } in
    let coming = c.in-Some.coming in
    let new = c.round-circuit.new in
    let made = c.round-circuit.result.made in
    let after = c.go_after-after in
    let circled = subst (λ (end : RoundEnd). Circled s code seat coming new.registers c.loop-steps.words.items new.words.items made end) c.in-Halts.is c.round-circuit.ensures.circled in
    framed_then s code seat.own c.args.place (moment c.args.words.now.items (IsAt c.args.place (Some c.args.restart))) (moment new.words.items circled.0) after.new.words.items after.new.local
    (c.loop-steps.steps.made + made + 2) (c.loop-steps.steps.work + made + 1) after.result c.framed_after.result c.framed_after.ensures after.ensures.few.1
    (round_more s code seat c.loop-steps.words.items coming c.loop-steps.invariant.0 c.in-Some.ensures circled.2) (after.ensures.framed circled.0 circled.1)

pub returns-in-Halts-clause-no_further : goal.returns-in-Halts-clause-no_further
returns-in-Halts-clause-no_further c = λ none.
    let is : c.framed_after.result.made ≡ c.loop-steps.steps.made + c.round-circuit.result.made + 2 + c.go_after-after.result.made =
    ap (λ (f : Framed). f.made) c.framed_after.ensures in
    absurd (omega (arith, is, none))

pub returns-in-Halts-clause-few : goal.returns-in-Halts-clause-few
returns-in-Halts-clause-few c =
    subst (λ (f : Framed). (f.made ≤ c.args.most) × (f.work ≤ f.made)) (sym c.framed_after.ensures) (
      omega (arith, c.loop-steps-test.true, c.round-circuit.ensures.few, c.go_after-after.ensures.few.0, c.loop-steps.invariant.4),
      omega (arith, c.loop-steps.invariant.5),
    )

pub returns-clause-framed : goal.returns-clause-framed
returns-clause-framed c =
    framed_as c.args.shape.now c.args.code.now c.args.local.now.own c.args.place (moment c.args.words.now.items (IsAt c.args.place (Some c.args.restart)))
    c.loop-steps.words.items c.loop-steps.local c.installed-2.result _ c.installed-2.ensures (record { steps = c.loop-steps.invariant.0; holds = c.loop-steps.invariant.1 })

pub returns-clause-no_further : goal.returns-clause-no_further
returns-clause-no_further c = λ made.
    let none : c.loop-steps.steps.made ≡ 0 = sym (ap (λ (f : Framed). f.made) c.installed-2.ensures) ∙ made in
    subst
    (λ (f : Framed). NoFurther c.args.shape.now c.args.code.now c.args.local.now.own c.args.most
    (moment c.loop-steps.words.items (stands_framed c.args.shape.now c.args.code.now c.args.place c.loop-steps.local f.end)))
    (sym c.installed-2.ensures)
    (too_few c.args.shape.now c.args.code.now c.args.local.now.own c.args.most c.args.place c.loop-steps.at c.loop-steps.words.items
    (omega (arith, c.loop-steps-test.false, none)))

use Rattle.std.proofs.Common.{false, refl, true}
use Rattle.ppm_cells.specs.declared.cell.Cell.TheVariants.{EntryWord}
use Rattle.ppm_engine.proofs.EndLemmas.{raised_if, rises, stuck}
use Rattle.ppm_engine.proofs.MakingLemmas.{moved}
use Rattle.ppm_engine.proofs.ends.raise_entry.Goals as goal

pub exchange-requires-clause-change : goal.exchange-requires-clause-change
exchange-requires-clause-change g c κs within =
    (c.requires.entries.0, c.requires.entries.1 (c.if-not-entry_can_rise.ensures.0 refl))

pub exchange-requires-clause-stands : goal.exchange-requires-clause-stands
exchange-requires-clause-stands g c κs within =
    let m = c.args.memory.now in
    let s = g.M.Memory.shape m in
    let code = g.M.Memory.code m in
    let place = c.args.seat.now in
    let led = g.M.Memory.led m place.own in
    let change = c.args.change in (
      c.requires.stands.0,
      c.requires.stands.1,
      tt,
      moved led c.requires.stands.0 (raised_if s code place (EntryWord place.place change.slot) change.old
          change.new c.requires.stands.1 true (rises change.old (c.if-not-entry_can_rise.ensures.0 refl))) (c.requires.stands.2),
    )

pub returns-then-not-entry_can_rise-clause-came : goal.returns-then-not-entry_can_rise-clause-came
returns-then-not-entry_can_rise-clause-came g c = λ first next l.
    let m = c.args.memory.now in
    let s = g.M.Memory.shape m in
    let code = g.M.Memory.code m in
    let place = c.args.seat.now in
    let led = g.M.Memory.led m place.own in
    let change = c.args.change in
    moved led first (raised_if s code place (EntryWord place.place change.slot) change.old change.new next false
    (stuck change.old (λ h. let e = c.if-not-entry_can_rise.ensures.1 h in cc))) (l)

pub returns-clause-came : goal.returns-clause-came
returns-clause-came g c = λ first next l.
    let m = c.args.memory.now in
    let s = g.M.Memory.shape m in
    let code = g.M.Memory.code m in
    let place = c.args.seat.now in
    let led = g.M.Memory.led m place.own in
    let change = c.args.change in
    c.exchange.ensures.came first next tt (moved led first (raised_if s code place (EntryWord place.place change.slot) change.old change.new next true
    (rises change.old (c.if-not-entry_can_rise.ensures.0 refl))) (l))

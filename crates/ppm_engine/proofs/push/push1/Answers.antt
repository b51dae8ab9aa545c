use Rattle.std.proofs.Common.{ap, false, refl, sym, true, ◌+◌, ◌==◌, ◌∙◌}
use Rattle.ppm_step.specs.declared.row.Row.{Row}
use Rattle.ppm_step.specs.Standings.{stands}
use Rattle.ppm_cells.specs.declared.shape.Shape.{Shape}
use Rattle.ppm_cells.specs.declared.shape.Takeover.TheVariants.{ByPlaces, ByEntries}
use Rattle.ppm_engine.proofs.RowLemmas.{push_as}
use Rattle.ppm_engine.proofs.MakingLemmas.{moved}
use Rattle.ppm_engine.proofs.push.push1.Goals as goal

pub push_inline-requires-clause-stands : goal.push_inline-requires-clause-stands
push_inline-requires-clause-stands g c κs within =
    let m = c.args.memory.now in
    let s = g.M.Memory.shape m in
    let code = g.M.Memory.code m in
    let place = c.args.seat.now in
    let led = g.M.Memory.led m place.own in
    let last = ap (λ (x : Shape). place.restart.bottom + 1 == x.slots) (sym c.shape-shape.ensures) ∙ sym c.if-is_last.ensures in (
      c.requires.stands.0,
      moved led c.requires.stands.0 (ap (λ (r : Row). stands s code place r) (push_as place s.takeover s.takeover c.args.block
          (place.restart.bottom + 1 == s.slots) true refl last)) (c.requires.stands.1),
    )

pub returns-then-is_last-clause-came : goal.returns-then-is_last-clause-came
returns-then-is_last-clause-came g c = λ first l.
    let m = c.args.memory.now in
    let s = g.M.Memory.shape m in
    let code = g.M.Memory.code m in
    let place = c.args.seat.now in
    let led = g.M.Memory.led m place.own in
    let last = ap (λ (x : Shape). place.restart.bottom + 1 == x.slots) (sym c.shape-shape.ensures) ∙ sym c.if-is_last.ensures in
    c.push_inline.ensures.came first
    (moved led first (ap (λ (r : Row). stands s code place r) (push_as place s.takeover s.takeover c.args.block
    (place.restart.bottom + 1 == s.slots) true refl last)) (l))

pub push_above-requires-clause-stands : goal.push_above-requires-clause-stands
push_above-requires-clause-stands g c κs within =
    let m = c.args.memory.now in
    let s = g.M.Memory.shape m in
    let code = g.M.Memory.code m in
    let place = c.args.seat.now in
    let led = g.M.Memory.led m place.own in
    let more = ap (λ (x : Shape). place.restart.bottom + 1 == x.slots) (sym c.shape-shape.ensures) ∙ sym c.if-is_last.ensures in
    let how = sym (ap (λ (x : Shape). x.takeover) c.shape-shape.ensures) ∙ c.in-ByPlaces.is in (
      c.requires.stands.0,
      moved led c.requires.stands.0
          (ap (λ (r : Row). stands s code place r) (push_as place ByPlaces s.takeover c.args.block (place.restart.bottom + 1 == s.slots) false how more))
          (c.requires.stands.1),
    )

pub returns-in-ByPlaces-clause-came : goal.returns-in-ByPlaces-clause-came
returns-in-ByPlaces-clause-came g c = λ first l.
    let m = c.args.memory.now in
    let s = g.M.Memory.shape m in
    let code = g.M.Memory.code m in
    let place = c.args.seat.now in
    let led = g.M.Memory.led m place.own in
    let more = ap (λ (x : Shape). place.restart.bottom + 1 == x.slots) (sym c.shape-shape.ensures) ∙ sym c.if-is_last.ensures in
    let how = sym (ap (λ (x : Shape). x.takeover) c.shape-shape.ensures) ∙ c.in-ByPlaces.is in
    c.push_above.ensures.came first
    (moved led first (ap (λ (r : Row). stands s code place r) (push_as place ByPlaces s.takeover c.args.block
    (place.restart.bottom + 1 == s.slots) false how more)) (l))

pub push_by_order-requires-clause-stands : goal.push_by_order-requires-clause-stands
push_by_order-requires-clause-stands g c κs within =
    let m = c.args.memory.now in
    let s = g.M.Memory.shape m in
    let code = g.M.Memory.code m in
    let place = c.args.seat.now in
    let led = g.M.Memory.led m place.own in
    let more = ap (λ (x : Shape). place.restart.bottom + 1 == x.slots) (sym c.shape-shape.ensures) ∙ sym c.if-is_last.ensures in
    let how = sym (ap (λ (x : Shape). x.takeover) c.shape-shape.ensures) ∙ c.in-ByEntries.is in (
      c.requires.stands.0,
      moved led c.requires.stands.0
          (ap (λ (r : Row). stands s code place r) (push_as place ByEntries s.takeover c.args.block (place.restart.bottom + 1 == s.slots) false how more))
          (c.requires.stands.1),
    )

pub returns-in-ByEntries-clause-came : goal.returns-in-ByEntries-clause-came
returns-in-ByEntries-clause-came g c = λ first l.
    let m = c.args.memory.now in
    let s = g.M.Memory.shape m in
    let code = g.M.Memory.code m in
    let place = c.args.seat.now in
    let led = g.M.Memory.led m place.own in
    let more = ap (λ (x : Shape). place.restart.bottom + 1 == x.slots) (sym c.shape-shape.ensures) ∙ sym c.if-is_last.ensures in
    let how = sym (ap (λ (x : Shape). x.takeover) c.shape-shape.ensures) ∙ c.in-ByEntries.is in
    c.push_by_order.ensures.came first
    (moved led first (ap (λ (r : Row). stands s code place r) (push_as place ByEntries s.takeover c.args.block
    (place.restart.bottom + 1 == s.slots) false how more)) (l))

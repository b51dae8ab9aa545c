use Rattle.std.proofs.Common.{ap}
use Rattle.ppm_step.specs.declared.row.Row.{Row}
use Rattle.ppm_step.specs.Standings.{stands}
use Rattle.ppm_cells.specs.declared.restart.RestartKind.{RestartKind}
use Rattle.ppm_step.specs.Rows.{row_of}
use Rattle.ppm_engine.proofs.MakingLemmas.{moved}
use Rattle.ppm_engine.proofs.rows.make_row.Goals as goal

pub bump-requires-clause-stands : goal.bump-requires-clause-stands
bump-requires-clause-stands g c κs within =
    let m = c.args.memory.now in
    let s = g.M.Memory.shape m in
    let code = g.M.Memory.code m in
    let place = c.args.seat.now in
    let led = g.M.Memory.led m place.own in (
      c.requires.stands.0,
      moved led c.requires.stands.0 (ap (λ (r : Row). stands s code place r) (ap (λ (k : RestartKind). row_of s place k) c.in-Bump.is))
          (c.requires.stands.1),
    )

pub returns-in-Bump-clause-came : goal.returns-in-Bump-clause-came
returns-in-Bump-clause-came g c = λ first l.
    let m = c.args.memory.now in
    let s = g.M.Memory.shape m in
    let code = g.M.Memory.code m in
    let place = c.args.seat.now in
    let led = g.M.Memory.led m place.own in
    c.bump.ensures.came first (moved led first (ap (λ (r : Row). stands s code place r) (ap (λ (k : RestartKind). row_of s place k) c.in-Bump.is)) (l))

pub push1-requires-clause-stands : goal.push1-requires-clause-stands
push1-requires-clause-stands g c κs within =
    let m = c.args.memory.now in
    let s = g.M.Memory.shape m in
    let code = g.M.Memory.code m in
    let place = c.args.seat.now in
    let led = g.M.Memory.led m place.own in (
      c.requires.stands.0,
      moved led c.requires.stands.0 (ap (λ (r : Row). stands s code place r) (ap (λ (k : RestartKind). row_of s place k) c.in-Push1.is))
          (c.requires.stands.1),
    )

pub returns-in-Push1-clause-came : goal.returns-in-Push1-clause-came
returns-in-Push1-clause-came g c = λ first l.
    let m = c.args.memory.now in
    let s = g.M.Memory.shape m in
    let code = g.M.Memory.code m in
    let place = c.args.seat.now in
    let led = g.M.Memory.led m place.own in
    c.push1.ensures.came first (moved led first (ap (λ (r : Row). stands s code place r) (ap (λ (k : RestartKind). row_of s place k) c.in-Push1.is)) (l))

pub push2-requires-clause-stands : goal.push2-requires-clause-stands
push2-requires-clause-stands g c κs within =
    let m = c.args.memory.now in
    let s = g.M.Memory.shape m in
    let code = g.M.Memory.code m in
    let place = c.args.seat.now in
    let led = g.M.Memory.led m place.own in (
      c.requires.stands.0,
      moved led c.requires.stands.0 (ap (λ (r : Row). stands s code place r) (ap (λ (k : RestartKind). row_of s place k) c.in-Push2.is))
          (c.requires.stands.1),
    )

pub returns-in-Push2-clause-came : goal.returns-in-Push2-clause-came
returns-in-Push2-clause-came g c = λ first l.
    let m = c.args.memory.now in
    let s = g.M.Memory.shape m in
    let code = g.M.Memory.code m in
    let place = c.args.seat.now in
    let led = g.M.Memory.led m place.own in
    c.push2.ensures.came first (moved led first (ap (λ (r : Row). stands s code place r) (ap (λ (k : RestartKind). row_of s place k) c.in-Push2.is)) (l))

pub unwind-requires-clause-stands : goal.unwind-requires-clause-stands
unwind-requires-clause-stands g c κs within =
    let m = c.args.memory.now in
    let s = g.M.Memory.shape m in
    let code = g.M.Memory.code m in
    let place = c.args.seat.now in
    let led = g.M.Memory.led m place.own in (
      c.requires.stands.0,
      moved led c.requires.stands.0
          (ap (λ (r : Row). stands s code place r) (ap (λ (k : RestartKind). row_of s place k) c.in-Unwind.is)) (c.requires.stands.1),
    )

pub returns-in-Unwind-clause-came : goal.returns-in-Unwind-clause-came
returns-in-Unwind-clause-came g c = λ first l.
    let m = c.args.memory.now in
    let s = g.M.Memory.shape m in
    let code = g.M.Memory.code m in
    let place = c.args.seat.now in
    let led = g.M.Memory.led m place.own in
    c.unwind.ensures.came first (moved led first (ap (λ (r : Row). stands s code place r) (ap (λ (k : RestartKind). row_of s place k) c.in-Unwind.is)) (l))

pub arrive-requires-clause-stands : goal.arrive-requires-clause-stands
arrive-requires-clause-stands g c κs within =
    let m = c.args.memory.now in
    let s = g.M.Memory.shape m in
    let code = g.M.Memory.code m in
    let place = c.args.seat.now in
    let led = g.M.Memory.led m place.own in (
      c.requires.stands.0,
      moved led c.requires.stands.0
          (ap (λ (r : Row). stands s code place r) (ap (λ (k : RestartKind). row_of s place k) c.in-Arrive.is)) (c.requires.stands.1),
    )

pub returns-in-Arrive-clause-came : goal.returns-in-Arrive-clause-came
returns-in-Arrive-clause-came g c = λ first l.
    let m = c.args.memory.now in
    let s = g.M.Memory.shape m in
    let code = g.M.Memory.code m in
    let place = c.args.seat.now in
    let led = g.M.Memory.led m place.own in
    c.arrive.ensures.came first (moved led first (ap (λ (r : Row). stands s code place r) (ap (λ (k : RestartKind). row_of s place k) c.in-Arrive.is)) (l))

pub join-requires-clause-stands : goal.join-requires-clause-stands
join-requires-clause-stands g c κs within =
    let m = c.args.memory.now in
    let s = g.M.Memory.shape m in
    let code = g.M.Memory.code m in
    let place = c.args.seat.now in
    let led = g.M.Memory.led m place.own in (
      c.requires.stands.0,
      moved led c.requires.stands.0 (ap (λ (r : Row). stands s code place r) (ap (λ (k : RestartKind). row_of s place k) c.in-Join.is))
          (c.requires.stands.1),
    )

pub returns-in-Join-clause-came : goal.returns-in-Join-clause-came
returns-in-Join-clause-came g c = λ first l.
    let m = c.args.memory.now in
    let s = g.M.Memory.shape m in
    let code = g.M.Memory.code m in
    let place = c.args.seat.now in
    let led = g.M.Memory.led m place.own in
    c.join.ensures.came first (moved led first (ap (λ (r : Row). stands s code place r) (ap (λ (k : RestartKind). row_of s place k) c.in-Join.is)) (l))

pub pop1-requires-clause-stands : goal.pop1-requires-clause-stands
pop1-requires-clause-stands g c κs within =
    let m = c.args.memory.now in
    let s = g.M.Memory.shape m in
    let code = g.M.Memory.code m in
    let place = c.args.seat.now in
    let led = g.M.Memory.led m place.own in (
      c.requires.stands.0,
      moved led c.requires.stands.0 (ap (λ (r : Row). stands s code place r) (ap (λ (k : RestartKind). row_of s place k) c.in-Pop1.is))
          (c.requires.stands.1),
    )

pub returns-in-Pop1-clause-came : goal.returns-in-Pop1-clause-came
returns-in-Pop1-clause-came g c = λ first l.
    let m = c.args.memory.now in
    let s = g.M.Memory.shape m in
    let code = g.M.Memory.code m in
    let place = c.args.seat.now in
    let led = g.M.Memory.led m place.own in
    c.pop1.ensures.came first (moved led first (ap (λ (r : Row). stands s code place r) (ap (λ (k : RestartKind). row_of s place k) c.in-Pop1.is)) (l))

pub pop2-requires-clause-stands : goal.pop2-requires-clause-stands
pop2-requires-clause-stands g c κs within =
    let m = c.args.memory.now in
    let s = g.M.Memory.shape m in
    let code = g.M.Memory.code m in
    let place = c.args.seat.now in
    let led = g.M.Memory.led m place.own in (
      c.requires.stands.0,
      moved led c.requires.stands.0 (ap (λ (r : Row). stands s code place r) (ap (λ (k : RestartKind). row_of s place k) c.in-Pop2.is))
          (c.requires.stands.1),
    )

pub returns-in-Pop2-clause-came : goal.returns-in-Pop2-clause-came
returns-in-Pop2-clause-came g c = λ first l.
    let m = c.args.memory.now in
    let s = g.M.Memory.shape m in
    let code = g.M.Memory.code m in
    let place = c.args.seat.now in
    let led = g.M.Memory.led m place.own in
    c.pop2.ensures.came first (moved led first (ap (λ (r : Row). stands s code place r) (ap (λ (k : RestartKind). row_of s place k) c.in-Pop2.is)) (l))

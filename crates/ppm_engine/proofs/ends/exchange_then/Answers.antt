use Rattle.ppm_engine.proofs.ends.exchange_then.Goals as goal

pub exchange-requires-clause-stands : goal.exchange-requires-clause-stands
exchange-requires-clause-stands g c κs within =
    (c.requires.stands.0, c.args.next, c.requires.change.3, c.requires.stands.1)

pub install-requires-clause-stands : goal.install-requires-clause-stands
install-requires-clause-stands g c κs within =
    (c.requires.stands.0, (c.in_default.ensures.came c.requires.stands.0 c.args.next c.requires.change.3 c.requires.stands.1).1)

pub returns-in-Err-clause-came : goal.returns-in-Err-clause-came
returns-in-Err-clause-came g c = λ first l.
    let m = c.args.memory.now in
    let s = g.M.Memory.shape m in
    let code = g.M.Memory.code m in
    let place = c.args.seat.now in
    let led = g.M.Memory.led m place.own in
    c.in-Err.ensures.came first c.args.next c.requires.change.3 l

pub returns-clause-came : goal.returns-clause-came
returns-clause-came g c = λ first l.
    let m = c.args.memory.now in
    let s = g.M.Memory.shape m in
    let code = g.M.Memory.code m in
    let place = c.args.seat.now in
    let led = g.M.Memory.led m place.own in
    c.install.ensures.came first ((c.in_default.ensures.came first c.args.next c.requires.change.3 l).1)

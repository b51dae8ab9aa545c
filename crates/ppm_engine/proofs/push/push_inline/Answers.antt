use Rattle.ppm_engine.proofs.push.push_inline.Goals as goal

pub returns-clause-came : goal.returns-clause-came
returns-clause-came g c = λ first l.
    let m = c.args.memory.now in
    let s = g.M.Memory.shape m in
    let code = g.M.Memory.code m in
    let place = c.args.seat.now in
    let led = g.M.Memory.led m place.own in
    c.store_then.ensures.came first l

use Rattle.std.proofs.Common.{ℕ, sym, subst, arith}
use Rattle.ppm_table.specs.Shown.{deeds_of_processor, opening_of}
use Rattle.ppm_table.proofs.TellingLemmas.{keeps_both}
use Rattle.ppm_threads.specs.Going.{Obeying, RunsOn}
use Rattle.ppm_threads.proofs.GoingLemmas.{goes_behind}
use Rattle.ppm_threads.proofs.going.go_on.Goals as goal

-- no steps were made in a row
pub act-requires-clause-obeying : goal.act-requires-clause-obeying
act-requires-clause-obeying g c κs within =
    subst (λ (n : ℕ). Obeying c.args.crew.now.plan.now c.args.crew.now.limits (opening_of c.args.crew.now.shared) n (deeds_of_processor c.go_ahead.new.processor)
    c.go_ahead.new.pace c.args.victims.now)
    (sym c.go_ahead.ensures.own) (c.in-Some.ensures.goes c.args.victims.now c.requires.obeying).0

-- the watcher refused one
pub returns-in_default-clause-goes : goal.returns-in_default-clause-goes
returns-in_default-clause-goes g c = c.in_default.ensures.goes c.args.victims.now c.requires.obeying

-- its next act
pub returns-then-made-eq0-clause-keeps : goal.returns-then-made-eq0-clause-keeps
returns-then-made-eq0-clause-keeps g c =
    keeps_both (g.W.Watch.told c.args.watch.now) (g.W.Watch.told c.go_ahead.new.watch) (g.W.Watch.told c.act.new.watch)
    c.go_ahead.ensures.keeps c.act.ensures.keeps

pub returns-then-made-eq0-clause-goes : goal.returns-then-made-eq0-clause-goes
returns-then-made-eq0-clause-goes g c =
    let k = opening_of c.args.crew.now.shared in
    let p = c.args.processor.now in
    let goes = c.in-Some.ensures.goes c.args.victims.now c.requires.obeying in
    let none = c.if-made-eq0.true in
    goes_behind c.args.crew.now.plan.now c.args.crew.now.limits k p.local.own (g.W.Watch.told c.args.watch.now) (g.W.Watch.told c.go_ahead.new.watch)
    (g.W.Watch.told c.act.new.watch)
    p.seat.me c.go_ahead.new.processor.seat.me c.act.new.processor.seat.me c.act.new.pace c.act.new.victims c.act.result goes.1
    (let more = goes.2 in omega (arith, more, none))
    (subst (λ (n : ℕ). RunsOn c.args.crew.now.plan.now c.args.crew.now.limits k n (g.W.Watch.told c.go_ahead.new.watch) (g.W.Watch.told c.act.new.watch)
    c.go_ahead.new.processor.seat.me c.act.new.processor.seat.me
    c.act.new.pace c.act.new.victims c.act.result) c.go_ahead.ensures.own c.act.ensures.goes)

-- some were
pub returns-clause-goes : goal.returns-clause-goes
returns-clause-goes g c =
    let goes = c.in-Some.ensures.goes c.args.victims.now c.requires.obeying in
    (goes.0, goes.1, (let more = goes.2 in let some = c.if-made-eq0.false in omega (arith, more, some)))

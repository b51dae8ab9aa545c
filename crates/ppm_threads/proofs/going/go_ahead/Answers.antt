use Rattle.std.proofs.Common.{ℕ, ◌≤◌, ◌∙◌, ap, subst, arith}
use Rattle.ppm_step.specs.State.{next_of, seeks_holder}
use Rattle.ppm_choice.specs.Paces.{AreClear}
use Rattle.ppm_table.specs.Run.{stands_by}
use Rattle.ppm_table.specs.Shown.{deeds_of_processor, opening_of}
use Rattle.ppm_threads.proofs.GoingLemmas.{obeying_along, grows_along, more_along, obeying_still}
use Rattle.ppm_threads.proofs.ActLemmas.{row_quits}
use Rattle.ppm_threads.proofs.going.go_ahead.Goals as goal

-- the coming step is made as a turn
pub returns-then-goes_by_turns-clause-goes : goal.returns-then-goes_by_turns-clause-goes
returns-then-goes_by_turns-clause-goes g c victims o = (o, λ list e. e, omega arith)

-- the watcher refused one
pub returns-then-row-clause-goes : goal.returns-then-row-clause-goes
returns-then-row-clause-goes g c victims o =
    let k = opening_of c.args.crew.now.shared in
    let p = c.args.processor.now in
    let clear = subst (λ (n : ℕ). AreClear c.args.crew.now.plan.now c.args.crew.now.limits n o.past c.clear_acts.result) o.number
    (c.clear_acts.ensures o.past (stands_by k p.local.own (deeds_of_processor p)) o.pace_is) in
    row_quits g.W.Watch.told c.args.crew.now.plan.now c.args.crew.now.limits k p.local.own p.seat.me c.steps-row.new.processor.seat.me
    c.args.watch.now c.steps-row.new.watch c.min-most.result c.clear_acts.result c.args.pace.now victims o (c.steps-row.ensures.stops c.if-row.true)
    (let m = c.min-most.ensures in omega (arith, m)) clear

-- none was made
pub returns-then-row-eq0-clause-goes : goal.returns-then-row-eq0-clause-goes
returns-then-row-eq0-clause-goes g c victims o =
    let k = opening_of c.args.crew.now.shared in
    let p = c.args.processor.now in
    let q = c.steps-row.new.processor in
    let row = c.steps-row.result in
    let moves = c.steps-row.ensures.makes c.if-row.false in
    let more = more_along c.args.crew.now.plan.now c.args.crew.now.limits k p.local.own p.seat.me q.seat.me row.made row.work row.looks moves.goes in (
      obeying_still c.args.crew.now.plan.now c.args.crew.now.limits k p.local.own p.seat.me q.seat.me c.args.pace.now victims row.made row.work row.looks moves.goes
          c.if-row-eq0.true o,
      grows_along c.args.crew.now.plan.now c.args.crew.now.limits k p.local.own (g.W.Watch.told c.args.watch.now) (g.W.Watch.told c.steps-row.new.watch) p.seat.me
          q.seat.me c.args.pace.now victims
          row.made row.work row.looks o moves.goes moves.shows,
      (let none = c.if-row-eq0.true in omega (arith, more, none)),
    )

-- all of them are next acts, and the watcher was told of them
pub returns-clause-goes : goal.returns-clause-goes
returns-clause-goes g c victims o =
    let shared = c.args.crew.now.shared in
    let k = opening_of shared in
    let p = c.args.processor.now in
    let own = p.local.own in
    let q = c.steps-row.new.processor in
    let row = c.steps-row.result in
    let moves = c.steps-row.ensures.makes c.if-row.false in
    let stands = c.steps-row.ensures.of.stands ∙ ap (λ (n : ℕ). stands_by k n (deeds_of_processor q)) c.steps-row.ensures.own in
    let clear = subst (λ (n : ℕ). AreClear c.args.crew.now.plan.now c.args.crew.now.limits n o.past c.clear_acts.result) o.number
    (c.clear_acts.ensures o.past (stands_by k own (deeds_of_processor p)) o.pace_is) in
    let most : row.made ≤ c.clear_acts.result = let f = c.steps-row.ensures.few.0 in let m = c.min-most.ensures in omega (arith, f, m) in (
      obeying_along c.args.crew.now.plan.now c.args.crew.now.limits k own p.seat.me q.seat.me c.args.pace.now c.count_steps.new.self victims row.made row.work row.looks
          c.clear_acts.result o
          moves.goes most clear c.count_steps.ensures.number
          (λ past' acts works looked.
          c.count_steps.ensures.pace c.args.crew.now.plan.now o.past past' (stands_by k own (deeds_of_processor p)) (stands_by k own (deeds_of_processor q))
          o.pace_is acts works looked
          (c.next-next.ensures shared.shape shared.code ∙ ap next_of stands) (c.is_due-due.ensures shared.shape shared.code ∙ ap seeks_holder stands)),
      grows_along c.args.crew.now.plan.now c.args.crew.now.limits k own (g.W.Watch.told c.args.watch.now) (g.W.Watch.told c.steps-row.new.watch) p.seat.me q.seat.me
          c.args.pace.now victims
          row.made row.work row.looks o moves.goes moves.shows,
      more_along c.args.crew.now.plan.now c.args.crew.now.limits k own p.seat.me q.seat.me row.made row.work row.looks moves.goes,
    )

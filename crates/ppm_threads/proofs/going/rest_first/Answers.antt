use Rattle.std.proofs.Common.{◌∙◌, Some, None, inr, sym, ap}
use Rattle.ppm_step.specs.Told.{place_of}
use Rattle.ppm_table.specs.Run.{stands_by}
use Rattle.ppm_table.specs.Shown.{deeds_of_processor, opening_of}
use Rattle.ppm_table.proofs.TellingLemmas.{keeps_both}
use Rattle.ppm_threads.proofs.GoingLemmas.{obeys_all}
use Rattle.ppm_threads.proofs.ParkedLemmas.{leaves_if, parks_if, rests_live, acting_rested, grows_parked, quits_parked, none_rests, next_rested}
use Rattle.ppm_threads.proofs.ActLemmas.{may_act, goes_by_act}
use Rattle.ppm_threads.proofs.going.rest_first.Goals as goal

-- it leaves
pub returns-then-not-is_park-clause-goes : goal.returns-then-not-is_park-clause-goes
returns-then-not-is_park-clause-goes g c =
    let k = opening_of c.args.crew.now.shared in
    let p = c.args.processor.now in
    let r = c.requires.resting in (
      obeys_all c.args.crew.now.plan.now c.args.crew.now.limits k p.local.own (deeds_of_processor p) c.args.pace.now c.args.victims.now r.obeying
          (inr (leaves_if c.args.crew.now.limits.idle (sym c.is_park.ensures ∙ c.if-not-is_park.true), r.rests)),
      λ list e. e,
    )

-- its watcher refuses to be told that it parks
pub returns-then-not-hear-clause-goes : goal.returns-then-not-hear-clause-goes
returns-then-not-hear-clause-goes g c =
    let shared = c.args.crew.now.shared in
    let p = c.args.processor.now in
    let idle = parks_if c.args.crew.now.limits.idle (sym c.is_park.ensures ∙ c.if-not-is_park.false) in
    quits_parked c.args.crew.now.plan.now c.args.crew.now.limits (opening_of shared) p.local.own (deeds_of_processor p) (deeds_of_processor c.give_way.new.processor)
    c.args.pace.now c.args.victims.now (g.W.Watch.told c.args.watch.now) (g.W.Watch.told c.hear.new.watch) c.parked_at.result c.requires.resting idle
    (c.parked_at.ensures (stands_by (opening_of shared) p.local.own (deeds_of_processor p))
    (c.place.ensures shared.shape shared.code ∙ ap place_of c.requires.of.stands))
    (c.hear.ensures.refused c.if-not-hear.true) c.give_way.ensures.gave_up

-- it has parked, and doesn't rest again at once
pub unreachable-requires : goal.unreachable-requires
unreachable-requires g c =
    let k = opening_of c.args.crew.now.shared in
    let p = c.args.processor.now in
    let r = c.requires.resting in
    let st = stands_by k p.local.own (deeds_of_processor p) in
    let next = next_rested c.args.crew.now.plan.now c.args.crew.now.limits k p.local.own (deeds_of_processor p) c.args.pace.now c.rest.new.self c.args.victims.now
    c.next_act.new.victims None r
    c.rest.ensures.number (c.rest.ensures.pace c.args.crew.now.plan.now c.args.crew.now.limits r.obeying.past st r.obeying.pace_is) c.in_default.ensures in
    none_rests c.args.crew.now.plan.now c.args.crew.now.limits p.local.own r.obeying.past st next.0

pub make-requires-clause-lives : goal.make-requires-clause-lives
make-requires-clause-lives g c κs within =
    let r = c.requires.resting in λ done.
    rests_live c.args.crew.now.plan.now c.args.crew.now.limits c.args.processor.now.local.own r.obeying.past _ r.rests (sym c.requires.of.stands ∙ done)

pub make-requires-clause-may : goal.make-requires-clause-may
make-requires-clause-may g c κs within =
    let shared = c.args.crew.now.shared in
    let k = opening_of shared in
    let p = c.args.processor.now in
    let r = c.requires.resting in
    let st = stands_by k p.local.own (deeds_of_processor p) in
    let next = next_rested c.args.crew.now.plan.now c.args.crew.now.limits k p.local.own (deeds_of_processor p) c.args.pace.now c.rest.new.self c.args.victims.now
    c.next_act.new.victims (Some c.in-Some.act) r
    c.rest.ensures.number (c.rest.ensures.pace c.args.crew.now.plan.now c.args.crew.now.limits r.obeying.past st r.obeying.pace_is) c.in-Some.ensures in
    may_act shared p c.args.crew.now.plan.now c.args.crew.now.limits r.obeying.past c.in-Some.act c.requires.of c.requires.plan next.1

pub returns-clause-keeps : goal.returns-clause-keeps
returns-clause-keeps g c =
    keeps_both (g.W.Watch.told c.args.watch.now) (g.W.Watch.told c.hear.new.watch) (g.W.Watch.told c.make.new.watch)
    c.hear.ensures.keeps c.make.ensures.keeps

pub returns-clause-goes : goal.returns-clause-goes
returns-clause-goes g c =
    let shared = c.args.crew.now.shared in
    let k = opening_of shared in
    let p = c.args.processor.now in
    let own = p.local.own in
    let r = c.requires.resting in
    let st = stands_by k own (deeds_of_processor p) in
    let idle = parks_if c.args.crew.now.limits.idle (sym c.is_park.ensures ∙ c.if-not-is_park.false) in
    let pace_is = c.rest.ensures.pace c.args.crew.now.plan.now c.args.crew.now.limits r.obeying.past st r.obeying.pace_is in
    let next = next_rested c.args.crew.now.plan.now c.args.crew.now.limits k own (deeds_of_processor p) c.args.pace.now c.rest.new.self c.args.victims.now
    c.next_act.new.victims (Some c.in-Some.act) r
    c.rest.ensures.number pace_is c.in-Some.ensures in
    let a = acting_rested c.args.crew.now.plan.now c.args.crew.now.limits k own (deeds_of_processor p) c.args.pace.now c.rest.new.self c.args.victims.now
    c.next_act.new.victims c.in-Some.act r idle
    c.rest.ensures.number pace_is next in
    let event = c.parked_at.ensures st (c.place.ensures shared.shape shared.code ∙ ap place_of c.requires.of.stands) in
    goes_by_act c.args.crew.now.plan.now c.args.crew.now.limits k own (g.W.Watch.told c.args.watch.now) (g.W.Watch.told c.hear.new.watch)
    (g.W.Watch.told c.make.new.watch) p.seat.me c.make.new.processor.seat.me
    r.obeying.past c.make.new.pace c.next_act.new.victims c.make.result c.act_result_of.result c.act_result_of.ensures
    (grows_parked c.args.crew.now.plan.now c.args.crew.now.limits k own (deeds_of_processor p) r.obeying.past (g.W.Watch.told c.args.watch.now)
    (g.W.Watch.told c.hear.new.watch) c.parked_at.result idle r.rests event
    (c.hear.ensures.heard c.if-not-hear.false))
    (λ taken. c.make.ensures.obeys taken c.args.crew.now.plan.now r.obeying.past c.next_act.new.victims a)
    (λ refused. c.make.ensures.quits refused c.args.crew.now.plan.now r.obeying.past c.next_act.new.victims a)

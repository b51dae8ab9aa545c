use Rattle.std.proofs.Common.{◌≢◌, ◌∙◌, Some, None, inl, sym, ap}
use Rattle.ppm_step.specs.Standings.{IsDone}
use Rattle.ppm_step.specs.Locals.{standing_of}
use Rattle.ppm_step.specs.State.{next_of}
use Rattle.ppm_table.specs.Run.{stands_by}
use Rattle.ppm_table.specs.Shown.{deeds_of_processor, opening_of}
use Rattle.ppm_threads.proofs.AlongLemmas.{over_is, lives_on}
use Rattle.ppm_threads.proofs.GoingLemmas.{obeys_all, acting_next, grows_from}
use Rattle.ppm_threads.proofs.ActLemmas.{next_own, may_act, goes_by_act}
use Rattle.ppm_threads.proofs.going.act.Goals as goal

-- it is done
pub returns-then-is_over-clause-goes : goal.returns-then-is_over-clause-goes
returns-then-is_over-clause-goes g c =
    let k = opening_of c.args.crew.now.shared in
    let p = c.args.processor.now in
    let o = c.requires.obeying in (
      obeys_all c.args.crew.now.plan.now c.args.crew.now.limits k p.local.own (deeds_of_processor p) c.args.pace.now c.args.victims.now o
          (inl (over_is c.args.pace.now.next (stands_by k p.local.own (deeds_of_processor p)) (sym c.is_over.ensures ∙ c.if-is_over.true) o.pace_is.next)),
      λ list e. e,
    )

-- it rests
pub rest_first-requires-clause-resting : goal.rest_first-requires-clause-resting
rest_first-requires-clause-resting g c κs within =
    let k = opening_of c.args.crew.now.shared in
    let p = c.args.processor.now in
    let o = c.requires.obeying in
    let rests = next_own c.args.crew.now.plan.now c.args.crew.now.limits k p.local.own (deeds_of_processor p) c.args.pace.now c.args.victims.now c.next_act.new.victims
    None o c.in_default.ensures in
    record {
      obeying = record { past = o.past; number = o.number; pace_is = o.pace_is; drawn = rests.1; follows = o.follows };
      rests = rests.0;
    }

-- it makes its next act
pub make-requires-clause-lives : goal.make-requires-clause-lives
make-requires-clause-lives g c κs within =
    let shared = c.args.crew.now.shared in
    lives_on c.args.pace.now.next (standing_of shared.shape shared.code c.args.processor.now.local) (sym c.is_over.ensures ∙ c.if-is_over.false)
    (c.requires.obeying.pace_is.next ∙ ap next_of (sym c.requires.of.stands))

pub make-requires-clause-may : goal.make-requires-clause-may
make-requires-clause-may g c κs within =
    let shared = c.args.crew.now.shared in
    let p = c.args.processor.now in
    let o = c.requires.obeying in
    let next = next_own c.args.crew.now.plan.now c.args.crew.now.limits (opening_of shared) p.local.own (deeds_of_processor p) c.args.pace.now c.args.victims.now
    c.next_act.new.victims (Some c.in-Some.act) o c.in-Some.ensures in
    may_act shared p c.args.crew.now.plan.now c.args.crew.now.limits o.past c.in-Some.act c.requires.of c.requires.plan next.1

pub returns-clause-goes : goal.returns-clause-goes
returns-clause-goes g c =
    let shared = c.args.crew.now.shared in
    let k = opening_of shared in
    let p = c.args.processor.now in
    let own = p.local.own in
    let o = c.requires.obeying in
    let next = next_own c.args.crew.now.plan.now c.args.crew.now.limits k own (deeds_of_processor p) c.args.pace.now c.args.victims.now c.next_act.new.victims
    (Some c.in-Some.act) o c.in-Some.ensures in
    let lives : stands_by k own (deeds_of_processor p) ≢ IsDone = lives_on c.args.pace.now.next (stands_by k own (deeds_of_processor p))
    (sym c.is_over.ensures ∙ c.if-is_over.false) o.pace_is.next in
    let a = acting_next c.args.crew.now.plan.now c.args.crew.now.limits k own (deeds_of_processor p) c.args.pace.now c.args.victims.now c.next_act.new.victims
    c.in-Some.act o lives next in
    goes_by_act c.args.crew.now.plan.now c.args.crew.now.limits k own (g.W.Watch.told c.args.watch.now) (g.W.Watch.told c.args.watch.now)
    (g.W.Watch.told c.make.new.watch) p.seat.me c.make.new.processor.seat.me
    o.past c.make.new.pace c.next_act.new.victims c.make.result c.act_result_of.result c.act_result_of.ensures
    (grows_from c.args.crew.now.plan.now c.args.crew.now.limits k own (deeds_of_processor p) o.past (g.W.Watch.told c.args.watch.now) next.0)
    (λ taken. c.make.ensures.obeys taken c.args.crew.now.plan.now o.past c.next_act.new.victims a)
    (λ refused. c.make.ensures.quits refused c.args.crew.now.plan.now o.past c.next_act.new.victims a)

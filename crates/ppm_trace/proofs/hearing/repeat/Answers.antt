use Rattle.std.proofs.Common.{◌≡◌, ◌-◌, suc, [], ◌∷◌, replicate, ap, sym, ◌∙◌, arith}
use Rattle.ppm_choice.proofs.IdleLemmas.{all_same, none_left, is_over}
use Rattle.ppm_choice.specs.Course.{Listed}
use Rattle.ppm_core.specs.Acts.{is_done_at}
use Rattle.ppm_core.specs.Machine.{seen}
use Rattle.ppm_following.specs.Following.{course}
use Rattle.ppm_step.specs.State.{stand_of}
use Rattle.ppm_trace.proofs.HearingLemmas.{goes_on, ends, ends_by, shape_stays}
use Rattle.ppm_trace.specs.Hearing.{hearing}
use Rattle.ppm_trace.proofs.hearing.repeat.Goals as goal

-- no act is left: none of these is made
pub returns-then-way-eq0-clause-hears : goal.returns-then-way-eq0-clause-hears
returns-then-way-eq0-clause-hears g c =
    let m = seen c.loop-left.machine in
    let w = course m c.loop-left.way in
    let due = Listed c.args.item.act in
    ends (g.L.Listener.heard c.args.listener.now) (g.met.L.Listener.rest c.args.listener.now) (replicate c.args.item.times due) (replicate c.loop-left.left due)
    (hearing (seen c.args.machine.now) c.args.way.now c.args.notes.now) (hearing m c.loop-left.way c.loop-left.notes)
    c.loop-left.invariant.0 (all_same m.shape m.code w due c.loop-left.left (none_left m.shape m.code w due c.if-way-eq0.true))

-- its processor is done
pub returns-then-is_done-clause-hears : goal.returns-then-is_done-clause-hears
returns-then-is_done-clause-hears g c =
    let m = seen c.loop-left.machine in
    let w = course m c.loop-left.way in
    let due = Listed c.args.item.act in
    let same = ap (λ p. is_done_at (stand_of m.state p)) c.processor_of-processor.ensures in
    let over = sym same ∙ sym c.is_done.ensures ∙ c.if-is_done.true in
    ends (g.L.Listener.heard c.args.listener.now) (g.met.L.Listener.rest c.args.listener.now) (replicate c.args.item.times due) (replicate c.loop-left.left due)
    (hearing (seen c.args.machine.now) c.args.way.now c.args.notes.now) (hearing m c.loop-left.way c.loop-left.notes)
    c.loop-left.invariant.0 (all_same m.shape m.code w due c.loop-left.left (is_over m.shape m.code w due over))

-- one more
pub loop-left-preserved : goal.loop-left-preserved
loop-left-preserved g c =
    let due = Listed c.args.item.act in
    let left = c.loop-left.left in
    let more : left ≡ suc (left - 1) = omega (arith, c.loop-left-test.true) in (
      goes_on (g.L.Listener.heard c.args.listener.now) (g.met.L.Listener.on c.args.listener.now) (replicate c.args.item.times due) (replicate left due) (due ∷ []) (replicate (left - 1) due)
          (hearing (seen c.args.machine.now) c.args.way.now c.args.notes.now)
          (hearing (seen c.loop-left.machine) c.loop-left.way c.loop-left.notes)
          (hearing (seen c.hear_and_make.new.machine) c.hear_and_make.new.way c.hear_and_make.new.notes)
          (ap (λ n. replicate n due) more) c.loop-left.invariant.0 c.in_ok-hear_and_make.ensures.hears,
      c.in_ok-hear_and_make.ensures.is,
      shape_stays (g.L.Listener.heard c.args.listener.now) c.in_ok-hear_and_make.ensures.hears ∙ c.loop-left.invariant.2,
    )

-- all of them
pub returns-clause-hears : goal.returns-clause-hears
returns-clause-hears g c =
    let due = Listed c.args.item.act in
    let none : c.loop-left.left ≡ 0 = omega (arith, c.loop-left-test.false) in
    ends_by (g.L.Listener.heard c.args.listener.now) (g.met.L.Listener.rest c.args.listener.now) (replicate c.args.item.times due) (replicate c.loop-left.left due)
    (hearing (seen c.args.machine.now) c.args.way.now c.args.notes.now) (hearing (seen c.loop-left.machine) c.loop-left.way c.loop-left.notes)
    (ap (λ n. replicate n due) none) c.loop-left.invariant.0

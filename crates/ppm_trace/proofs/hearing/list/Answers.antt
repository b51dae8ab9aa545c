use Rattle.std.proofs.Common.{◌∙◌}
use Rattle.ppm_core.specs.Machine.{seen}
use Rattle.ppm_following.proofs.ListLemmas.{all_rest}
use Rattle.ppm_plan.specs.Schedules.{IsItemAmong}
use Rattle.ppm_trace.proofs.HearingLemmas.{one_item, no_item, shape_stays}
use Rattle.ppm_trace.specs.Hearing.{hearing}
use Rattle.ppm_trace.proofs.hearing.list.Goals as goal

-- one item more
pub loop-left-preserved : goal.loop-left-preserved
loop-left-preserved g c = (
  one_item (g.L.Listener.heard c.args.listener.now) (g.met.L.Listener.on c.args.listener.now) c.args.items.now c.loop-left.left.now _
      (hearing (seen c.args.machine.now) c.args.way.now c.args.notes.now)
      (hearing (seen c.loop-left.machine) c.loop-left.way c.loop-left.notes)
      (hearing (seen c.repeat.new.machine) c.repeat.new.way c.repeat.new.notes)
      c.in-len1-up.len_at_least c.loop-left.invariant.0 c.in_ok-repeat.ensures.hears,
  c.in_ok-repeat.ensures.is,
  shape_stays (g.L.Listener.heard c.args.listener.now) c.in_ok-repeat.ensures.hears ∙ c.loop-left.invariant.2,
  all_rest (IsItemAmong (seen c.args.machine.now).shape.processors) c.loop-left.left.now c.in-len1-up.len_at_least c.loop-left.invariant.3,
)

-- all items
pub returns-clause-hears : goal.returns-clause-hears
returns-clause-hears g c =
    no_item (g.L.Listener.heard c.args.listener.now) (g.met.L.Listener.rest c.args.listener.now) c.args.items.now c.loop-left.left.now
    (hearing (seen c.args.machine.now) c.args.way.now c.args.notes.now) (hearing (seen c.loop-left.machine) c.loop-left.way c.loop-left.notes)
    c.in_default.len_below c.loop-left.invariant.0

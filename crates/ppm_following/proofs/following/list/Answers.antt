use Rattle.std.proofs.Common.{◌∙◌}
use Rattle.ppm_core.specs.Machine.{seen}
use Rattle.ppm_plan.specs.Schedules.{IsItemAmong}
use Rattle.ppm_following.proofs.DoesLemmas.{shape_stays}
use Rattle.ppm_following.proofs.ListLemmas.{one_item, all_rest, no_item}
use Rattle.ppm_following.proofs.following.list.Goals as goal

-- one item more
pub loop-left-preserved : goal.loop-left-preserved
loop-left-preserved c = (
  one_item c.args.items.now c.loop-left.left.now _ c.in-len1-up.len_at_least c.loop-left.invariant.0 c.repeat.ensures.does,
  c.repeat.ensures.ready,
  shape_stays c.repeat.ensures.does ∙ c.loop-left.invariant.2,
  all_rest (IsItemAmong (seen c.args.machine.now).shape.processors) c.loop-left.left.now c.in-len1-up.len_at_least c.loop-left.invariant.3,
)

-- all items
pub returns-clause-does : goal.returns-clause-does
returns-clause-does c = no_item c.args.items.now c.loop-left.left.now c.in_default.len_below c.loop-left.invariant.0

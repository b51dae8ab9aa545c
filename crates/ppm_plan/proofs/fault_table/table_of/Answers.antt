use Rattle.ppm_plan.proofs.TableLemmas.{one_put, all_put}
use Rattle.ppm_plan.proofs.fault_table.table_of.Goals as goal

-- one item more
pub loop-left-preserved : goal.loop-left-preserved
loop-left-preserved c processor turn =
    one_put _ _ _ c.loop-left.left.now _ processor turn c.in-len1-up.len_at_least (c.in_ok-put.ensures processor turn)
    (c.loop-left.invariant processor turn)

-- all items
pub returns : goal.returns
returns c processor turn = all_put _ _ c.loop-left.left.now processor turn c.in_default.len_below (c.loop-left.invariant processor turn)

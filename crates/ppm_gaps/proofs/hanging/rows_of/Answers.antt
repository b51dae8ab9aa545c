use Rattle.std.proofs.Common.{arith, IsTrue}
use Rattle.ppm_gaps.proofs.HangingLemmas.{begun, came_by, grown, hangs}
use Rattle.ppm_gaps.proofs.SearchLemmas.{read_at}
use Rattle.ppm_gaps.proofs.hanging.rows_of.Goals as goal

-- nothing comes of a find at the beginning
pub loop-at-init : goal.loop-at-init
loop-at-init c = λ to m less range. begun c.args.instrs.now 160 to m

-- past one more instruction
pub loop-at-preserved : goal.loop-at-preserved
loop-at-preserved c =
    let is = c.args.instrs.now in
    let there = read_at is c.loop-at.at c.index-instrs-at.result c.loop-at-test.true c.index-instrs-at.is in
    grown is c.loop-at.at c.index-instrs-at.result there c.loop-at.rows c.pass.new.rows (IsTrue c.is_find-finds.result) c.is_find-finds.ensures
    (omega (arith, c.requires, c.loop-at-test.true)) c.loop-at.invariant c.pass.ensures

-- all were passed
pub returns : goal.returns
returns c = λ at m less range.
    let is = c.args.instrs.now in
    let all = c.loop-at.invariant at m (omega (arith, c.requires, less)) range in (
      λ h. hangs is c.loop-at.at at m (all.0 h),
      λ h. all.1 (came_by is c.loop-at.at at m (omega (arith, c.loop-at-test.false, less)) h),
    )

use Rattle.std.proofs.Common.{refl}
use Rattle.ppm_races.specs.Beside.{stands_beside}
use Rattle.ppm_races.proofs.StampLemmas.{passed_next, passed_all, there_next}
use Rattle.ppm_races.proofs.stamps.first_met.Goals as goal

-- one touch more meets nothing
pub loop-left-preserved : goal.loop-left-preserved
loop-left-preserved c =
    let inv = c.loop-left.invariant in
    record {
      passed = passed_next (stands_beside c.args.marks.now) c.args.visits.now.wrote.items c.args.visits.now.touched.items c.args.log.now
          c.loop-left.left.now _ c.in-len1-up.len_at_least c.in_default-met_by.ensures.none inv.passed;
      wrote = there_next _ _ c.loop-left.left.now c.in-len1-up.len_at_least refl inv.wrote;
      touched = there_next _ _ c.loop-left.left.now c.in-len1-up.len_at_least refl inv.touched;
    }

-- none of them does
pub returns-clause-none : goal.returns-clause-none
returns-clause-none c = passed_all (stands_beside c.args.marks.now) c.args.visits.now.wrote.items c.args.visits.now.touched.items c.args.log.now
    c.loop-left.left.now c.in_default.len_below c.loop-left.invariant.passed

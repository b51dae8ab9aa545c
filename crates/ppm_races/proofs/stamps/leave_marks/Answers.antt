use Rattle.std.proofs.Common.{List, ℕ, length, ap, ◌∙◌}
use Rattle.ppm_races.specs.Beside.{stands_beside}
use Rattle.ppm_races.proofs.StampLemmas.{marks_next, marks_all, there_next, wrote_kept, touched_kept}
use Rattle.ppm_races.proofs.stamps.leave_marks.Goals as goal

-- one touch more
pub loop-left-preserved : goal.loop-left-preserved
loop-left-preserved c =
    let inv = c.loop-left.invariant in
    record {
      marks = marks_next (stands_beside c.args.marks.now) c.args.time c.requires.now _ _ c.args.log.now _ _ _ _ c.loop-left.left.now _
          c.in-len1-up.len_at_least inv.wrote inv.touched inv.marks c.leave_mark.ensures.wrote c.leave_mark.ensures.touched;
      wrote = there_next _ _ c.loop-left.left.now c.in-len1-up.len_at_least
          (ap (λ (xs : List ℕ). length xs) c.leave_mark.ensures.wrote ∙ wrote_kept _ _ _ c.loop-left.visits.wrote.items) inv.wrote;
      touched = there_next _ _ c.loop-left.left.now c.in-len1-up.len_at_least
          (ap (λ (xs : List ℕ). length xs) c.leave_mark.ensures.touched ∙ touched_kept _ _ _ c.loop-left.visits.touched.items) inv.touched;
    }

-- all of them
pub returns : goal.returns
returns c = marks_all (stands_beside c.args.marks.now) c.args.time _ _ _ _ c.args.log.now c.loop-left.left.now c.in_default.len_below
    c.loop-left.invariant.marks

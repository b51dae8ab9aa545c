use Rattle.std.proofs.Common.{◌-◌, get_or, refl, arith}
use Rattle.ppm_races.specs.declared.stamps.Mark.{Mark}
use Rattle.ppm_races.proofs.ForkLemmas.{none_there, last_has, last_has_not}
use Rattle.ppm_races.proofs.stamps.fork_with.Goals as goal

-- none has begun
pub returns-then-count-eq0-clause-none : goal.returns-then-count-eq0-clause-none
returns-then-count-eq0-clause-none c = none_there c.args.marks.now c.requires.sorted c.args.stamp c.count_begun-count.result
    c.count_begun-count.ensures.bound c.count_begun-count.ensures.point c.if-count-eq0.true (record { start = 0; mid = 0 })

-- the last one that has begun has the stamp
pub returns-then-stamp-mark-clause-some : goal.returns-then-stamp-mark-clause-some
returns-then-stamp-mark-clause-some c =
    let some = c.if-count-eq0.false in
    let none : Mark = record { start = 0; mid = 0 } in
    last_has c.args.marks.now c.requires.sorted c.args.stamp c.count_begun-count.result c.count_begun-count.ensures.bound
    c.count_begun-count.ensures.point (c.count_begun-count.result - 1) none (get_or c.args.marks.now (c.count_begun-count.result - 1) none)
    (omega (arith, some)) refl c.if-stamp-mark.true

-- or its left branch was over
pub returns-clause-none : goal.returns-clause-none
returns-clause-none c =
    let some = c.if-count-eq0.false in
    let none : Mark = record { start = 0; mid = 0 } in
    last_has_not c.args.marks.now c.requires.sorted c.args.stamp c.count_begun-count.result c.count_begun-count.ensures.bound
    c.count_begun-count.ensures.point (c.count_begun-count.result - 1) none (get_or c.args.marks.now (c.count_begun-count.result - 1) none)
    (omega (arith, some)) refl c.if-stamp-mark.false

use Rattle.std.proofs.Common.{sym, subst}
use Rattle.ppm_code.specs.Paths.{Does}
use Rattle.ppm_code.specs.declared.class.May.{May}
use Rattle.ppm_war.specs.Search.{IsFirst, LeadsToWrite}
use Rattle.ppm_war.proofs.ConflictLemmas.{is_false}
use Rattle.ppm_war.proofs.FirstLemmas.{writes_here, behind}
use Rattle.ppm_war.proofs.firsts.first_from.Goals as goal

-- the write itself
pub returns-then-writes : goal.returns-then-writes
returns-then-writes c = λ is does later.
    writes_here is c.args.class c.args.at (subst (λ (m : May). Does is c.args.at m) (c.writes.ensures.0 c.if-writes.true) does)

-- or what it leads to
pub returns : goal.returns
returns c = λ is does later. subst (IsFirst (LeadsToWrite is c.args.class c.args.at)) (sym c.first_behind.ensures)
    (behind is c.args.class c.args.firsts.now c.args.may c.args.at does
    (λ e. is_false c.writes.result c.if-writes.false (c.writes.ensures.1 e)) later)

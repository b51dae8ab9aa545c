use Rattle.std.proofs.Common.{arith}
use Rattle.ppm_code.specs.declared.class.Class.TheVariants.{Array}
use Rattle.ppm_war.specs.Search.{LeadsToWrite}
use Rattle.ppm_war.proofs.ConflictLemmas.{is_false, none_below}
use Rattle.ppm_war.proofs.FirstLemmas.{first_none}
use Rattle.ppm_gaps.proofs.SearchLemmas.{found}
use Rattle.ppm_racy_gaps.proofs.RepeatLemmas.{write_within}
use Rattle.ppm_racy_gaps.proofs.repeats.first_write.Goals as goal

-- none is below the first place
pub loop-at-init : goal.loop-at-init
loop-at-init c = λ k less x. omega (arith, less)

-- this is the first
pub returns-then-leads_to_write : goal.returns-then-leads_to_write
returns-then-leads_to_write c = found (LeadsToWrite c.args.instrs.now Array c.args.from) c.loop-at.at c.loop-at.invariant
    (c.leads_to_write.ensures.0 c.if-leads_to_write.true)

-- nor is this one
pub loop-at-preserved : goal.loop-at-preserved
loop-at-preserved c = none_below (LeadsToWrite c.args.instrs.now Array c.args.from) c.loop-at.at c.loop-at.invariant
    (λ x. is_false c.leads_to_write.result c.if-leads_to_write.false (c.leads_to_write.ensures.1 x))

-- all were met
pub returns : goal.returns
returns c = first_none (LeadsToWrite c.args.instrs.now Array c.args.from)
    (λ k x. c.loop-at.invariant k (omega (arith, c.loop-at-test.false, write_within c.args.instrs.now c.args.from k x)) x)

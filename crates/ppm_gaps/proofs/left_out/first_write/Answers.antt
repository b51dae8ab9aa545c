use Rattle.std.proofs.Common.{arith}
use Rattle.ppm_gaps.specs.LeftOut.{HasLeftOut}
use Rattle.ppm_war.proofs.ConflictLemmas.{is_false, none_below}
use Rattle.ppm_war.proofs.FirstLemmas.{first_none}
use Rattle.ppm_gaps.proofs.SearchLemmas.{found}
use Rattle.ppm_gaps.proofs.LeftOutLemmas.{write_below}
use Rattle.ppm_gaps.proofs.left_out.first_write.Goals as goal

-- none is below the first place
pub loop-write-init : goal.loop-write-init
loop-write-init c = λ k less x. omega (arith, less)

-- this is the first
pub returns-then-is_left_out_by : goal.returns-then-is_left_out_by
returns-then-is_left_out_by c = found (HasLeftOut c.args.instrs.now c.args.find) c.loop-write.write c.loop-write.invariant (c.is_left_out_by.ensures.0 c.if-is_left_out_by.true)

-- nor is this one
pub loop-write-preserved : goal.loop-write-preserved
loop-write-preserved c = none_below (HasLeftOut c.args.instrs.now c.args.find) c.loop-write.write c.loop-write.invariant
    (λ x. is_false c.is_left_out_by.result c.if-is_left_out_by.false (c.is_left_out_by.ensures.1 x))

-- all were met
pub returns : goal.returns
returns c = first_none (HasLeftOut c.args.instrs.now c.args.find)
    (λ k x. c.loop-write.invariant k (omega (arith, c.loop-write-test.false, write_below c.args.instrs.now c.args.find k x)) x)

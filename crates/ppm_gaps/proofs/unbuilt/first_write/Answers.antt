use Rattle.std.proofs.Common.{arith}
use Rattle.ppm_gaps.specs.Unbuilt.{HasUnbuilt}
use Rattle.ppm_war.proofs.ConflictLemmas.{is_false, none_below}
use Rattle.ppm_war.proofs.FirstLemmas.{first_none}
use Rattle.ppm_gaps.proofs.SearchLemmas.{found}
use Rattle.ppm_gaps.proofs.UnbuiltLemmas.{write_below}
use Rattle.ppm_gaps.proofs.unbuilt.first_write.Goals as goal

-- none is below the first place
pub loop-write-init : goal.loop-write-init
loop-write-init c = λ k less x. omega (arith, less)

-- this is the first
pub returns-then-is_unbuilt_by : goal.returns-then-is_unbuilt_by
returns-then-is_unbuilt_by c = found (HasUnbuilt c.args.instrs.now) c.loop-write.write c.loop-write.invariant (c.is_unbuilt_by.ensures.0 c.if-is_unbuilt_by.true)

-- nor is this one
pub loop-write-preserved : goal.loop-write-preserved
loop-write-preserved c = none_below (HasUnbuilt c.args.instrs.now) c.loop-write.write c.loop-write.invariant
    (λ x. is_false c.is_unbuilt_by.result c.if-is_unbuilt_by.false (c.is_unbuilt_by.ensures.1 x))

-- all were met
pub returns : goal.returns
returns c = first_none (HasUnbuilt c.args.instrs.now)
    (λ k x. c.loop-write.invariant k (omega (arith, c.loop-write-test.false, write_below c.args.instrs.now k x)) x)

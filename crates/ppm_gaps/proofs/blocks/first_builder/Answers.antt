use Rattle.std.proofs.Common.{arith}
use Rattle.ppm_gaps.specs.Blocks.{HasOther}
use Rattle.ppm_war.proofs.ConflictLemmas.{is_false, none_below}
use Rattle.ppm_war.proofs.FirstLemmas.{first_none}
use Rattle.ppm_gaps.proofs.SearchLemmas.{found}
use Rattle.ppm_gaps.proofs.BlockLemmas.{other_below}
use Rattle.ppm_gaps.proofs.blocks.first_builder.Goals as goal

-- none is below the first place
pub loop-other-init : goal.loop-other-init
loop-other-init c = λ k less x. omega (arith, less)

-- this is the first
pub returns-then-is_other_by : goal.returns-then-is_other_by
returns-then-is_other_by c = found (HasOther c.args.instrs.now) c.loop-other.other c.loop-other.invariant (c.is_other_by.ensures.0 c.if-is_other_by.true)

-- nor is this one
pub loop-other-preserved : goal.loop-other-preserved
loop-other-preserved c = none_below (HasOther c.args.instrs.now) c.loop-other.other c.loop-other.invariant
    (λ x. is_false c.is_other_by.result c.if-is_other_by.false (c.is_other_by.ensures.1 x))

-- all were met
pub returns : goal.returns
returns c = first_none (HasOther c.args.instrs.now)
    (λ k x. c.loop-other.invariant k (omega (arith, c.loop-other-test.false, other_below c.args.instrs.now k x)) x)

use Rattle.std.proofs.Common.{arith}
use Rattle.ppm_gaps.specs.LeftOut.{HasLeftOutOf}
use Rattle.ppm_war.proofs.ConflictLemmas.{is_false, none_below}
use Rattle.ppm_war.proofs.FirstLemmas.{first_none}
use Rattle.ppm_gaps.proofs.SearchLemmas.{found}
use Rattle.ppm_gaps.proofs.LeftOutLemmas.{find_below}
use Rattle.ppm_gaps.proofs.left_out.first_find.Goals as goal

-- none is below the first place
pub loop-find-init : goal.loop-find-init
loop-find-init c = λ k less x. omega (arith, less)

-- this is the first
pub returns-then-has_left_out : goal.returns-then-has_left_out
returns-then-has_left_out c = found (HasLeftOutOf c.args.instrs.now) c.loop-find.find c.loop-find.invariant (c.has_left_out.ensures.0 c.if-has_left_out.true)

-- nor is this one
pub loop-find-preserved : goal.loop-find-preserved
loop-find-preserved c = none_below (HasLeftOutOf c.args.instrs.now) c.loop-find.find c.loop-find.invariant
    (λ x. is_false c.has_left_out.result c.if-has_left_out.false (c.has_left_out.ensures.1 x))

-- all were met
pub returns : goal.returns
returns c = first_none (HasLeftOutOf c.args.instrs.now)
    (λ k x. c.loop-find.invariant k (omega (arith, c.loop-find-test.false, find_below c.args.instrs.now k x)) x)

use Rattle.std.proofs.Common.{refl}
use Rattle.ppm_gaps.proofs.BlockLemmas.{first_of_all, other_below}
use Rattle.ppm_gaps.proofs.blocks.first_other.Goals as goal

-- the end is there
pub other_by-requires-clause-there : goal.other_by-requires-clause-there
other_by-requires-clause-there c = other_below c.args.instrs.now c.in-Some.other (c.in-Some.ensures.some c.in-Some.other refl)

-- it is the least
pub returns-in-Some : goal.returns-in-Some
returns-in-Some c = first_of_all c.args.instrs.now c.in-Some.other c.other_by.result (c.in-Some.ensures.some c.in-Some.other refl)
    (λ k h. c.in-Some.ensures.least c.in-Some.other k refl h) c.other_by.ensures

-- or there is none
pub returns-in-None : goal.returns-in-None
returns-in-None c = λ stop other x. c.in-None.ensures.none refl other (stop, x)

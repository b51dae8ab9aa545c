use Rattle.std.proofs.Common.{refl}
use Rattle.ppm_gaps.proofs.LeftOutLemmas.{finds_of, first_of_all}
use Rattle.ppm_gaps.proofs.left_out.first_left_out.Goals as goal

-- it is a find
pub left_out_of-requires-clause-finds : goal.left_out_of-requires-clause-finds
left_out_of-requires-clause-finds c = finds_of c.args.instrs.now c.in-Some.find (c.in-Some.ensures.some c.in-Some.find refl)

-- it is the least
pub returns-in-Some : goal.returns-in-Some
returns-in-Some c = first_of_all c.args.instrs.now c.in-Some.find c.left_out_of.result (c.in-Some.ensures.some c.in-Some.find refl)
    (λ k h. c.in-Some.ensures.least c.in-Some.find k refl h) c.left_out_of.ensures

-- or there is none
pub returns-in-None : goal.returns-in-None
returns-in-None c = λ find write stop k x. c.in-None.ensures.none refl find (write, (stop, k, x))

use Rattle.std.proofs.Common.{refl}
use Rattle.ppm_gaps.proofs.LeftOutLemmas.{first_of_find, none_of, write_below}
use Rattle.ppm_gaps.proofs.left_out.left_out_of.Goals as goal

-- the store is there
pub left_out_by-requires-clause-there : goal.left_out_by-requires-clause-there
left_out_by-requires-clause-there c = write_below c.args.instrs.now c.args.find c.in-Some.write (c.in-Some.ensures.some c.in-Some.write refl)

-- it is the least
pub returns-in-Some : goal.returns-in-Some
returns-in-Some c = first_of_find c.args.instrs.now c.args.find c.in-Some.write c.left_out_by.result (c.in-Some.ensures.some c.in-Some.write refl)
    (λ k h. c.in-Some.ensures.least c.in-Some.write k refl h) c.left_out_by.ensures

-- or there is none
pub returns-in-None : goal.returns-in-None
returns-in-None c = none_of c.args.instrs.now c.args.find (c.in-None.ensures.none refl)

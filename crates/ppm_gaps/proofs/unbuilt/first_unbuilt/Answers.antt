use Rattle.std.proofs.Common.{refl}
use Rattle.ppm_gaps.proofs.UnbuiltLemmas.{first_of_all, write_below}
use Rattle.ppm_gaps.proofs.unbuilt.first_unbuilt.Goals as goal

-- the store is there
pub unbuilt_by-requires-clause-there : goal.unbuilt_by-requires-clause-there
unbuilt_by-requires-clause-there c = write_below c.args.instrs.now c.in-Some.write (c.in-Some.ensures.some c.in-Some.write refl)

-- it is the least
pub returns-in-Some : goal.returns-in-Some
returns-in-Some c = first_of_all c.args.instrs.now c.in-Some.write c.unbuilt_by.result (c.in-Some.ensures.some c.in-Some.write refl)
    (λ k h. c.in-Some.ensures.least c.in-Some.write k refl h) c.unbuilt_by.ensures

-- or there is none
pub returns-in-None : goal.returns-in-None
returns-in-None c = λ write stop word x. c.in-None.ensures.none refl write (stop, word, x)

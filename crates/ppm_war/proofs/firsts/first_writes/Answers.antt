use Rattle.std.proofs.Common.{refl, arith, ◌∙◌, ◌-◌, ◌<◌, ℕ, None, get_or}
use Rattle.std.proofs.lemmas.List.{length-set}
use Rattle.ppm_war.specs.Search.{IsFirst, LeadsToWrite}
use Rattle.ppm_war.proofs.DecodedLemmas.{decoded_length, does_at}
use Rattle.ppm_war.proofs.FirstLemmas.{past_end, one_more}
use Rattle.ppm_war.proofs.firsts.first_writes.Goals as goal

-- after the last instruction nothing is found
pub loop-at-init : goal.loop-at-init
loop-at-init c = record {
  within = omega arith;
  full = refl;
  found = λ is from d past. past_end is c.args.class 161 from (omega (arith, past, decoded_length is c.args.mays.now d));
}

-- one more is found
pub loop-at-preserved : goal.loop-at-preserved
loop-at-preserved c = record {
  within = omega (arith, c.loop-at.invariant.within);
  full = length-set c.loop-at.firsts (c.loop-at.at - 1) c.first_from.result ∙ c.loop-at.invariant.full;
  found = λ is from d up.
      let later : (k : ℕ) → c.loop-at.at - 1 < k → IsFirst (LeadsToWrite is c.args.class k) (get_or c.loop-at.firsts k None) =
      λ k less. c.loop-at.invariant.found is k d (omega (arith, less)) in
      let does = does_at is c.args.mays.now (c.loop-at.at - 1) _ d (omega (arith, c.loop-at-test.true, c.loop-at.invariant.within)) in
      one_more is c.args.class c.loop-at.firsts (c.loop-at.at - 1) c.first_from.result
      (omega (arith, c.loop-at.invariant.full, c.loop-at.invariant.within, c.loop-at-test.true, c.requires)) later (c.first_from.ensures is does later) from up;
}

-- at the end from all places
pub returns : goal.returns
returns c = λ is from d. c.loop-at.invariant.found is from d (omega (arith, c.loop-at-test.false))

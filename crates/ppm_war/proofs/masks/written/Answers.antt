use Rattle.std.proofs.Common.{refl, arith, ◌∙◌, ◌-◌, ◌<◌, ℕ}
use Rattle.std.proofs.lemmas.List.{length-set}
use Rattle.ppm_war.specs.Masks.{HasAt}
use Rattle.ppm_war.specs.Search.{LeadsToWrite}
use Rattle.ppm_war.proofs.DecodedLemmas.{decoded_length, does_at}
use Rattle.ppm_war.proofs.MaskLemmas.{none_past, one_more_written}
use Rattle.ppm_war.proofs.masks.written.Goals as goal

-- after the last instruction nothing is written
pub loop-at-init : goal.loop-at-init
loop-at-init c = record {
  within = omega arith;
  full = refl;
  found = λ is k from write d past leads. absurd (none_past is k from write (omega (arith, past, decoded_length is c.args.mays.now d)) leads);
}

-- one more set
pub loop-at-preserved : goal.loop-at-preserved
loop-at-preserved c = record {
  within = omega (arith, c.loop-at.invariant.within);
  full = length-set c.loop-at.masks (c.loop-at.at - 1) c.written_from.result ∙ c.loop-at.invariant.full;
  found = λ is k from write d up.
      let later : (from write : ℕ) → c.loop-at.at - 1 < from → LeadsToWrite is k from write → HasAt c.loop-at.masks from k =
      λ from write less. c.loop-at.invariant.found is k from write d (omega (arith, less)) in
      let does = does_at is c.args.mays.now (c.loop-at.at - 1) _ d (omega (arith, c.loop-at-test.true, c.loop-at.invariant.within)) in
      one_more_written is k c.loop-at.masks (c.loop-at.at - 1) c.written_from.result _
      (omega (arith, c.loop-at.invariant.full, c.loop-at.invariant.within, c.loop-at-test.true, c.requires)) does later
      (c.written_from.ensures.here k) (c.written_from.ensures.later k) from write up;
}

-- at the end for all places
pub returns : goal.returns
returns c = λ is k from write d. c.loop-at.invariant.found is k from write d (omega (arith, c.loop-at-test.false))

use Rattle.std.proofs.Common.{refl, ◌∙◌, length, arith}
use Rattle.std.proofs.lemmas.Option.{slice_get_read}
use Rattle.std.proofs.lemmas.List.{length-set}
use Rattle.ppm_war.proofs.DecodedLemmas.{decodes, all_decoded}
use Rattle.ppm_war.proofs.paths.decoded.Goals as goal

-- and one more
pub loop-at-preserved : goal.loop-at-preserved
loop-at-preserved c =
    let is = c.args.instrs.now in
    let one = slice_get_read is (length is) c.loop-at.at c.index-instrs-at.result refl c.loop-at-test.true c.index-instrs-at.is in
    record {
      within = omega (arith, c.loop-at-test.true);
      full = length-set c.loop-at.mays c.loop-at.at c.may.result ∙ c.loop-at.invariant.full;
      so_far = decodes is c.loop-at.mays c.loop-at.at c.index-instrs-at.result c.may.result one c.may.ensures
          (omega (arith, c.loop-at.invariant.full, c.requires, c.loop-at-test.true)) c.loop-at.invariant.so_far;
    }

-- all of them
pub returns : goal.returns
returns c = all_decoded c.args.instrs.now c.loop-at.mays c.loop-at.at (omega (arith, c.loop-at-test.false, c.loop-at.invariant.within)) c.loop-at.invariant.so_far

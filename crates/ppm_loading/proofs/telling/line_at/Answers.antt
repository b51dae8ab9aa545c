use Rattle.std.proofs.Common.{length, arith}
use Rattle.ppm_loading.proofs.LineLemmas.{front_few, line_fits}
use Rattle.ppm_loading.proofs.telling.line_at.Goals as goal

-- the capsules in front have few lines
pub lines_of-requires : goal.lines_of-requires
lines_of-requires c = record {
  few = front_few c.args.code.now c.parts-parts.result.now c.parts-parts.ensures.value c.parts-parts.ensures.code c.as_slice-capsules.result.now
      c.min.result c.as_slice-capsules.ensures;
}

-- a line's number fits 64 bits
pub overflow_add-result : goal.overflow_add-result
overflow_add-result c =
    let all = line_fits c.args.code.now c.parts-parts.result.now c.parts-parts.ensures.value c.parts-parts.ensures.code
    c.args.arrays c.lines_of.result c.args.at c.min.result c.as_slice-capsules.result.now c.as_slice.result.now c.requires c.as_slice.ensures
    c.as_slice-capsules.ensures c.lines_of.ensures.value c.ranges.at.fits in
    omega (arith, all)

-- a line's number fits 64 bits
pub overflow_add-result-2 : goal.overflow_add-result-2
overflow_add-result-2 c =
    let all = line_fits c.args.code.now c.parts-parts.result.now c.parts-parts.ensures.value c.parts-parts.ensures.code
    c.args.arrays c.lines_of.result c.args.at c.min.result c.as_slice-capsules.result.now c.as_slice.result.now c.requires c.as_slice.ensures
    c.as_slice-capsules.ensures c.lines_of.ensures.value c.ranges.at.fits in
    omega (arith, all)

-- a line's number fits 64 bits
pub overflow_add-result-3 : goal.overflow_add-result-3
overflow_add-result-3 c =
    let all = line_fits c.args.code.now c.parts-parts.result.now c.parts-parts.ensures.value c.parts-parts.ensures.code
    c.args.arrays c.lines_of.result c.args.at c.min.result c.as_slice-capsules.result.now c.as_slice.result.now c.requires c.as_slice.ensures
    c.as_slice-capsules.ensures c.lines_of.ensures.value c.ranges.at.fits in
    omega (arith, all)

-- a line's number fits 64 bits
pub overflow_add-result-4 : goal.overflow_add-result-4
overflow_add-result-4 c =
    let all = line_fits c.args.code.now c.parts-parts.result.now c.parts-parts.ensures.value c.parts-parts.ensures.code
    c.args.arrays c.lines_of.result c.args.at c.min.result c.as_slice-capsules.result.now c.as_slice.result.now c.requires c.as_slice.ensures
    c.as_slice-capsules.ensures c.lines_of.ensures.value c.ranges.at.fits in
    omega (arith, all)

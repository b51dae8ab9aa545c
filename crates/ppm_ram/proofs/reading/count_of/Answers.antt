use Rattle.std.proofs.Common.{◌∙◌, true, false, sym, arith}
use Rattle.ppm_ram.proofs.LoopLemmas.{count_more, count_last}
use Rattle.ppm_ram.proofs.reading.count_of.Goals as goal

-- no line was counted yet
pub loop-rest-init : goal.loop-rest-init
loop-rest-init c = (omega arith, omega arith)

-- one line more
pub loop-rest-preserved : goal.loop-rest-preserved
loop-rest-preserved c =
    let more = count_more c.loop-rest.left.now c.in-Some.field-0-0.now c.in-Some.rest.now c.in-Some.ensures.pieces in
    let all = c.loop-rest.invariant.0 in
    let bytes = c.loop-rest.invariant.1 in
    let shorter = c.in-Some.ensures.shorter in
    (omega (arith, more, all), omega (arith, bytes, shorter))

-- the last piece
pub returns-then-is_end : goal.returns-then-is_end
returns-then-is_end c =
    let last = count_last c.loop-rest.left.now true c.in_default.ensures.pieces (sym c.is_end.ensures ∙ c.if-is_end.true) in
    let all = c.loop-rest.invariant.0 in
    omega (arith, last, all)

pub returns-else-is_end : goal.returns-else-is_end
returns-else-is_end c =
    let last = count_last c.loop-rest.left.now false c.in_default.ensures.pieces (sym c.is_end.ensures ∙ c.if-is_end.false) in
    let all = c.loop-rest.invariant.0 in
    omega (arith, last, all)

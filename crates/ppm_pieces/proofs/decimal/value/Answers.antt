use Rattle.std.proofs.Common.{◌∙◌, arith}
use Rattle.ppm_pieces.proofs.NumberLemmas.{value_step}
use Rattle.ppm_pieces.proofs.decimal.value.Goals as goal

-- cut off on the way, or at the end
pub loop-left-preserved : goal.loop-left-preserved
loop-left-preserved c =
    rw (c.saturating_add-number.ensures, c.from.ensures, c.saturating_sub.ensures, c.saturating_mul.ensures)
    (value_step c.loop-left.number c.loop-left.left.now c.in-len1-up.len_at_least ∙ c.loop-left.invariant.0, omega arith)

use Rattle.std.proofs.Common.{refl}
use Rattle.ppm_gaps.proofs.gaps.gap_in.Goals as goal

-- a word is left out
pub returns-in-Some : goal.returns-in-Some
returns-in-Some c = c.in-Some.ensures

-- or one is not built
pub returns-in-Some-first_unbuilt : goal.returns-in-Some-first_unbuilt
returns-in-Some-first_unbuilt c = (c.in_default.ensures, c.in-Some-first_unbuilt.ensures)

-- or an end builds another block
pub returns-in-Some-first_other : goal.returns-in-Some-first_other
returns-in-Some-first_other c = (c.in_default.ensures, c.in_default-first_unbuilt.ensures, c.in-Some-first_other.ensures)

-- or a trap hangs on a find
pub returns-in-Some-first_hung : goal.returns-in-Some-first_hung
returns-in-Some-first_hung c =
    let first = c.in-Some-first_hung.ensures in (
      c.in_default.ensures,
      c.in_default-first_unbuilt.ensures,
      c.in_default-first_other.ensures,
      record { gap = first.some c.in-Some-first_hung.at refl; least = λ k h. first.least c.in-Some-first_hung.at k refl h },
    )

-- or there is none of the four
pub returns-in-None : goal.returns-in-None
returns-in-None c = record {
  none_left_out = c.in_default.ensures;
  none_unbuilt = c.in_default-first_unbuilt.ensures;
  one_block = c.in_default-first_other.ensures;
  none_hung = c.in-None.ensures.none refl;
}

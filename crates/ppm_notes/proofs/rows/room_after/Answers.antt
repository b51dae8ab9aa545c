use Rattle.std.proofs.Common.{◌-◌, ◌∙◌, ap}
use Rattle.ppm_pieces.specs.Pieces.{split}
use Rattle.ppm_notes.specs.Rows.{length_in}
use Rattle.ppm_notes.proofs.RowLemmas.{last_left}
use Rattle.ppm_notes.proofs.rows.room_after.Goals as goal

-- the last line takes its part
pub returns : goal.returns
returns c =
    c.saturating_sub.ensures ∙ ap (λ t. c.lines.room - t) c.length_in-2.ensures
    ∙ last_left length_in c.lines.room c.lines.ahead c.lines.left.now (split 10 c.lines.left.now) c.in_default.ensures.pieces c.if-ahead-eq0-2.false
    ∙ c.lines.invariant

use Rattle.std.proofs.Common.{◌-◌, ◌∙◌, ap}
use Rattle.ppm_pieces.specs.Pieces.{split}
use Rattle.ppm_notes.specs.SavedRows.{times_in}
use Rattle.ppm_notes.proofs.RowLemmas.{last_left}
use Rattle.ppm_notes.proofs.saved_rows.left_after.Goals as goal

-- the last line takes its part
pub returns : goal.returns
returns c =
    c.saturating_sub.ensures ∙ ap (λ t. c.lines.words - t) c.times_in-2.ensures
    ∙ last_left times_in c.lines.words c.lines.ahead c.lines.left.now (split 10 c.lines.left.now) c.in_default.ensures.pieces c.if-ahead-eq0-2.false
    ∙ c.lines.invariant

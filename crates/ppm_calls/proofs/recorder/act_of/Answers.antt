use Rattle.std.proofs.Common.{[], ◌∷◌}
use Rattle.ppm_calls.proofs.recorder.act_of.Goals as goal

-- its parts
pub returns : goal.returns
returns c = λ i. record { number = c.turns-number.ensures i; turn = c.args.turn; marks = c.marks_of-marks.ensures i } ∷ []

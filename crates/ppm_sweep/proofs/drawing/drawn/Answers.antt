use Rattle.std.proofs.Common.{◌∙◌, arith}
use Rattle.ppm_sweep.specs.Windows.{made_in}
use Rattle.ppm_sweep.proofs.DrawLemmas.{none_among}
use Rattle.ppm_sweep.proofs.drawing.drawn.Goals as goal

-- the run makes no act of the window
pub returns-then-among-eq0 : goal.returns-then-among-eq0
returns-then-among-eq0 c =
    c.new.ensures.items ∙ none_among c.args.window.from (made_in c.args.window c.args.acts) c.args.draws
    (omega (arith, c.if-among-eq0.true, c.made-among.ensures))

use Rattle.std.proofs.Common.{◌++◌}
use Rattle.ppm_lines.proofs.TextLemmas.{next}
use Rattle.ppm_show.specs.Lines.{line_at}
use Rattle.ppm_show.specs.Show.{sizes_text, fields_text}
use Rattle.ppm_show.proofs.showing.scene_text.Goals as goal

-- a line more
pub loop-at-preserved : goal.loop-at-preserved
loop-at-preserved c =
    next (line_at c.args.scene.now) (sizes_text c.args.scene.now.shape ++ fields_text) c.loop-at.text.items c.push_line_at.new.text.items c.loop-at.at
    c.loop-at.invariant c.in_ok-push_line_at.ensures

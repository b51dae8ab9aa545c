use Rattle.std.proofs.Common.{rules}
use Rattle.ppm_lines.specs.Marks.{listed}
use Rattle.ppm_step.specs.Locals.{standing_of}
use Rattle.ppm_picture.proofs.StrokeLemmas.{stroke_is}
use Rattle.ppm_picture.proofs.stroke.stroke_of.Goals as goal

-- part by part
pub returns : goal.returns
returns c =
    let scene = c.args.scene.now in
    stroke_is scene c.args.turn (standing_of scene.shape scene.code c.args.local.now) c.doing_of-doing.result c.paint_of.result c.edge_of.result
    (listed c.marks_at.result) c.source_of.result (c.doing_of-doing.ensures scene.shape scene.code) c.paint_of.ensures c.edge_of.ensures (search rules)
    c.source_of.ensures

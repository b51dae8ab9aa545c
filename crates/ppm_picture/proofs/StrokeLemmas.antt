-- What is shown of a turn, part by part.
use Rattle.std.proofs.Common.{◌≡◌, ◌∙◌, ℕ, List, Option, ap}
use Rattle.ppm_lines.specs.declared.doing.Doing.{Doing}
use Rattle.ppm_lines.specs.declared.edge.Edge.{Edge}
use Rattle.ppm_lines.specs.Doing.{doing_of}
use Rattle.ppm_lines.specs.Events.{edge_of}
use Rattle.ppm_lines.specs.Scene.{Scene}
use Rattle.ppm_lines.specs.Marks.{marks_at}
use Rattle.ppm_lines.specs.declared.mark.Mark.{Mark}
use Rattle.ppm_picture.specs.Strokes.{drawn_at, paint_of, source_of}
use Rattle.ppm_picture.specs.declared.paint.Paint.{Paint}
use Rattle.ppm_step.specs.Standings.{Standing}
use Rattle.ppm_step.specs.declared.turn.Turn.{Turn}

pub stroke_is : (scene : Scene) (turn : Turn) (standing : Standing) (doing : Doing) (paint : Option Paint) (edge : Edge) (marks : List Mark) (source : ℕ)
    → doing ≡ doing_of standing → paint ≡ paint_of scene doing → edge ≡ edge_of scene turn standing
    → marks ≡ marks_at scene.shape scene.code scene.words turn.act standing → source ≡ source_of scene turn.processor doing
    → record { processor = turn.processor; paint = paint; edge = edge; marks = marks; source = source } ≡ drawn_at scene turn standing
stroke_is scene turn standing doing paint edge marks source is painted edged marked from =
    let paints = painted ∙ ap (paint_of scene) is in
    let sources = from ∙ ap (source_of scene turn.processor) is in
    λ i. record { processor = turn.processor; paint = paints i; edge = edged i; marks = marked i; source = sources i }

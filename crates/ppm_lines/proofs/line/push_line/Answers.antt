use Rattle.std.proofs.Common.{◌∙◌, ◌++◌, [], ◌∷◌, ap}
use Rattle.ppm_lines.specs.Line.{who_fields, row_fields, step_fields}
use Rattle.ppm_lines.specs.Line.{marks as marks_of}
use Rattle.ppm_step.specs.Locals.{standing_of}
use Rattle.ppm_step.specs.Told.{place_of}
use Rattle.ppm_lines.proofs.LineLemmas.{five}
use Rattle.ppm_lines.proofs.line.push_line.Goals as goal

-- the pieces of the line, and its line feed
pub returns : goal.returns
returns c =
    let standing = standing_of c.args.scene.now.shape c.args.scene.now.code c.args.local.now in
    five c.args.text.now.items (who_fields c.args.number c.args.turn.processor (place_of standing))
    (row_fields c.args.scene.now c.args.turn standing) (step_fields c.args.scene.now c.args.turn standing)
    (marks_of c.args.scene.now c.args.turn standing) (10 ∷ [])
    (c.in_ok-push_who.ensures ∙ ap (λ place. c.args.text.now.items ++ who_fields c.args.number c.args.turn.processor place) c.carried.ensures)
    c.in_ok-push_row.ensures c.in_ok-push_step.ensures c.in_ok-push_marked.ensures c.in_ok-push.ensures.items

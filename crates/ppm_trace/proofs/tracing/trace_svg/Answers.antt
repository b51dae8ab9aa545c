use Rattle.std.proofs.Common.{◌≡◌, ◌∙◌, ◌+◌, ◌*◌, ◌≤◌, ap, arith, subst, sym, length}
use Rattle.ppm_core.specs.Machine.{seen}
use Rattle.ppm_trace.proofs.PictureLemmas.{pictures_are, strokes_few}
use Rattle.ppm_trace.specs.Counts.{total}
use Rattle.ppm_trace.specs.Picture.{canvas_of, picture_text}
use Rattle.ppm_trace.proofs.tracing.trace_svg.Goals as goal

-- nothing is counted yet
pub follow_heard-requires-clause-listens : goal.follow_heard-requires-clause-listens
follow_heard-requires-clause-listens c =
    subst (λ counts. total counts ≤ 3 * (seen c.args.machine.now).turns) (sym c.none.ensures) (omega arith)

-- as many acts are shown as are made, at most
pub picture-requires-clause-few : goal.picture-requires-clause-few
picture-requires-clause-few c =
    let few = strokes_few c.args.names.now c.args.from (seen c.args.machine.now)
    (record { text = c.new.result; strokes = c.new-2.result; counts = c.none.result }) c.follow_heard.new.notes
    c.args.schedule.now.items (c.args.from + c.args.acts) c.new-2.ensures.items c.in_ok-follow_heard.ensures.heard in
    omega (arith, few, c.requires.acts)

-- the picture of the run
pub returns-clause-text : goal.returns-clause-text
returns-clause-text c =
    let tale = c.follow_heard.new.notes in
    let n = seen c.follow_heard.new.machine in
    pictures_are c.args.names.now c.args.from (seen c.args.machine.now)
    (record { text = c.new.result; strokes = c.new-2.result; counts = c.none.result }) tale
    c.args.schedule.now.items (c.args.from + c.args.acts) c.new-2.ensures.items c.in_ok-follow_heard.ensures.heard
    n c.in_ok-text.text.items c.new.ensures.items c.none.ensures c.in_ok-follow_heard.ensures.made
    (c.in_ok-text.ensures
    ∙ ap (λ s. picture_text c.args.names.now s (canvas_of s.processors c.args.from (length tale.strokes.items)) tale.strokes.items tale.text.items tale.counts c.finish_word.result)
    c.shape-shape.ensures
    ∙ ap (λ word. picture_text c.args.names.now n.shape (canvas_of n.shape.processors c.args.from (length tale.strokes.items)) tale.strokes.items tale.text.items tale.counts word)
    c.finish_word.ensures)

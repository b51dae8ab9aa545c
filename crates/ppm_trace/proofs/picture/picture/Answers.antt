use Rattle.std.proofs.Common.{◌≡◌, ◌∙◌, ◌≤◌, ◌^◌, ◌++◌, max, length, ap, arith, subst, sym}
use Rattle.ppm_picture.specs.Canvas.{IsCanvas}
use Rattle.ppm_picture.specs.Drawing.{middle_text, top_text}
use Rattle.ppm_picture.specs.Legend.{legend_text}
use Rattle.ppm_trace.proofs.PictureLemmas.{is_canvas}
use Rattle.ppm_trace.proofs.TextLemmas.{and_then}
use Rattle.ppm_trace.specs.Picture.{canvas_of, counts_text, picture_text}
use Rattle.ppm_trace.proofs.picture.picture.Goals as goal

-- an act at least, and few
pub push_middle-requires-clause-canvas : goal.push_middle-requires-clause-canvas
push_middle-requires-clause-canvas c =
    let acts = length c.as_slice-strokes.result.now in
    let few : acts ≤ 2 ^ 40 = omega (arith, ap length c.as_slice-strokes.ensures.value, c.requires.few) in
    subst IsCanvas (sym c.canvas_of-canvas.ensures) (is_canvas c.args.shape.now.processors c.args.from acts few c.requires.from)

-- part by part
pub returns : goal.returns
returns c =
    let canvas = c.canvas_of-canvas.result in
    let tale = c.args.tale.now in
    let shape = c.args.shape.now in
    let strokes = c.as_slice-strokes.result.now in
    let dead = c.as_slice.result.now in
    let text = c.new-text.result.items in
    let top = top_text canvas tale.counts.acts c.args.finish in
    let counts = counts_text tale.counts shape.takeover in
    let middle = middle_text canvas strokes dead in
    let legend = legend_text canvas c.args.names.now in
    and_then text (top ++ counts ++ middle) legend
    (and_then text (top ++ counts) middle (and_then text top counts c.in_ok-push_top.ensures c.in_ok-push_counts.ensures) c.in_ok-push_middle.ensures)
    c.in_ok-push_legend.ensures
    ∙ ap (λ front. front ++ (top ++ counts ++ middle ++ legend)) c.new-text.ensures.items
    ∙ ap (λ k. picture_text c.args.names.now shape k strokes dead tale.counts c.args.finish) c.canvas_of-canvas.ensures
    ∙ ap (λ k. picture_text c.args.names.now shape (canvas_of shape.processors c.args.from (length k)) k dead tale.counts c.args.finish)
    c.as_slice-strokes.ensures.value
    ∙ ap (λ k. picture_text c.args.names.now shape (canvas_of shape.processors c.args.from (length tale.strokes.items)) tale.strokes.items k tale.counts c.args.finish)
    c.as_slice.ensures.value

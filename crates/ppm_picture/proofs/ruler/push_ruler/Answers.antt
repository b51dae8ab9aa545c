use Rattle.std.proofs.Common.{◌∙◌, ◌++◌, ◌+◌, ap, subst, sym}
use Rattle.ppm_picture.proofs.RulerLemmas.{distance_fits}
use Rattle.ppm_picture.proofs.TextLemmas.{and_then}
use Rattle.ppm_picture.specs.Canvas.{bottom}
use Rattle.ppm_picture.specs.Ruler.{distance_among, distances, Fits, ruler_label, ticks_by}
use Rattle.ppm_picture.proofs.ruler.push_ruler.Goals as goal

-- each distance of the table fits
pub push_ticks-requires-clause-fits : goal.push_ticks-requires-clause-fits
push_ticks-requires-clause-fits c =
    subst Fits (sym c.distance_among.ensures) (distance_fits c.args.canvas.acts c.requires.canvas.some c.requires.canvas.few)

-- the ticks, and what they count
pub returns : goal.returns
returns c =
    let text = c.args.text.now.items in
    let canvas = c.args.canvas in
    and_then text (ticks_by canvas (distance_among distances canvas.acts)) (ruler_label (bottom canvas + 1500))
    (c.in_ok-push_ticks.ensures ∙ ap (λ d. text ++ ticks_by canvas d) c.distance_among.ensures)
    (c.in_ok-push_ruler_label.ensures ∙ ap (λ y. c.push_ticks.new.text.items ++ ruler_label (y + 1500)) c.bottom.ensures.value)

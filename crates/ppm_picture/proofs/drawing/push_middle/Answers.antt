use Rattle.std.proofs.Common.{◌∙◌, ◌++◌, ap, codes}
use Rattle.ppm_picture.proofs.TextLemmas.{and_then}
use Rattle.ppm_picture.specs.Arrows.{arrows_from, signs_from, upright}
use Rattle.ppm_picture.specs.Canvas.{bottom, right_edge}
use Rattle.ppm_picture.specs.Layers.{layers_text, row_ends}
use Rattle.ppm_picture.specs.Ruler.{lanes_text, ruler_text}
use Rattle.ppm_picture.proofs.drawing.push_middle.Goals as goal

-- part by part
pub returns : goal.returns
returns c =
    let text = c.args.text.now.items in
    let k = c.args.canvas in
    let drawn = c.args.strokes.now in
    let one = ruler_text k in
    let two = lanes_text k.processors in
    let three = layers_text k drawn in
    let four = row_ends k drawn in
    let five = c.args.dead.now in
    let six = arrows_from k 0 drawn in
    let seven = signs_from k 0 drawn in
    let eight = upright (codes "n") right_edge 5600 (bottom k) in
    and_then text (one ++ two ++ three ++ four ++ five ++ six ++ seven) eight
    (and_then text (one ++ two ++ three ++ four ++ five ++ six) seven
    (and_then text (one ++ two ++ three ++ four ++ five) six
    (and_then text (one ++ two ++ three ++ four) five
    (and_then text (one ++ two ++ three) four
    (and_then text (one ++ two) three
    (and_then text one two c.in_ok-push_ruler.ensures c.in_ok-push_lanes.ensures)
    c.in_ok-push_layers.ensures)
    c.in_ok-push_row_ends.ensures)
    c.in_ok-extend_from_slice.ensures.items)
    c.in_ok-push_arrows.ensures)
    c.in_ok-push_signs.ensures)
    (c.in_ok-push_upright.ensures ∙ ap (λ b. c.push_signs.new.text.items ++ upright (codes "n") right_edge 5600 b) c.bottom.ensures.value)

use Rattle.std.proofs.Common.{◌∙◌, ◌++◌, ap}
use Rattle.ppm_picture.proofs.TextLemmas.{and_then}
use Rattle.ppm_picture.specs.Arrows.{arrow_text, label_height, place_label}
use Rattle.ppm_picture.specs.declared.arrow.Arrow.TheVariants.{Takeover}
use Rattle.ppm_picture.proofs.arrow.push_takeover.Goals as goal

-- an arrow, and the place's number
pub returns : goal.returns
returns c =
    let x = c.args.x in
    let from = c.args.source in
    let to = c.args.target in
    and_then c.args.text.now.items (arrow_text Takeover x from to) (place_label x (label_height from to) from)
    c.in_ok-push_arrow.ensures
    (c.in_ok-push_place.ensures ∙ ap (λ y. c.push_arrow.new.text.items ++ place_label x y from) c.label_height.ensures)

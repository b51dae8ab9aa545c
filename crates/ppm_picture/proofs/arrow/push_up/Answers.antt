use Rattle.std.proofs.Common.{◌∙◌, ◌++◌, ◌+◌, ap, codes}
use Rattle.ppm_picture.proofs.TextLemmas.{and_then}
use Rattle.ppm_picture.specs.Arrows.{end_class, path_from, shaft}
use Rattle.ppm_picture.specs.Canvas.{lane}
use Rattle.ppm_picture.proofs.arrow.push_up.Goals as goal

-- a shaft, and a head
pub returns : goal.returns
returns c =
    let text = c.args.text.now.items in
    let a = c.args.arrow in
    let x = c.args.x in
    let from = lane c.args.source in
    let to = lane c.args.target in
    let path = codes "l-450 800h900z" in
    and_then text (shaft a x from (to + 2400 + 800)) (path_from (end_class a) x (to + 2400) path)
    (c.in_ok-push_shaft.ensures
    ∙ ap (λ s. text ++ shaft a x s (c.lane-top.result + 2400 + 800)) c.lane.ensures.value
    ∙ ap (λ t. text ++ shaft a x from (t + 2400 + 800)) c.lane-top.ensures.value)
    (c.in_ok-push_path.ensures
    ∙ ap (λ k. c.push_shaft.new.text.items ++ path_from k x (c.lane-top.result + 2400) path) c.end_class.ensures
    ∙ ap (λ t. c.push_shaft.new.text.items ++ path_from (end_class a) x (t + 2400) path) c.lane-top.ensures.value)

use Rattle.std.proofs.Common.{◌∙◌, ◌++◌, ap, codes}
use Rattle.ppm_picture.proofs.TextLemmas.{and_then}
use Rattle.ppm_picture.specs.Canvas.{bottom}
use Rattle.ppm_picture.specs.Legend.{key_text, legend_head, procedures_text}
use Rattle.ppm_picture.proofs.legend.push_legend.Goals as goal

-- part by part
pub returns : goal.returns
returns c =
    let text = c.args.text.now.items in
    let head = legend_head (bottom c.args.canvas) in
    let names = procedures_text c.args.names.now in
    let end = codes "</text>\n" in
    and_then text (head ++ names ++ end) key_text
    (and_then text (head ++ names) end
    (and_then text head names (c.in_ok-push_legend_head.ensures ∙ ap (λ y. text ++ legend_head y) c.bottom.ensures.value) c.in_ok-push_procedures.ensures)
    c.in_ok-push_markup.ensures)
    c.in_ok-push_markup-2.ensures

use Rattle.std.proofs.Common.{◌++◌, codes}
use Rattle.ppm_picture.proofs.TextLemmas.{and_then}
use Rattle.ppm_picture.specs.Drawing.{ending_text, from_text, sizes_text}
use Rattle.ppm_picture.proofs.drawing.push_title.Goals as goal

-- part by part
pub returns : goal.returns
returns c =
    let text = c.args.text.now.items in
    let sizes = sizes_text c.args.canvas.processors c.args.acts in
    let from = from_text c.args.canvas.from in
    let colon = codes ": " in
    let ending = ending_text c.args.finish in
    let end = codes "</text>\n" in
    and_then text (sizes ++ from ++ colon ++ ending) end
    (and_then text (sizes ++ from ++ colon) ending
    (and_then text (sizes ++ from) colon
    (and_then text sizes from c.in_ok-push_sizes.ensures c.in_ok-push_from.ensures)
    c.in_ok-push_markup.ensures)
    c.in_ok-push_ending.ensures)
    c.in_ok-push_markup-2.ensures

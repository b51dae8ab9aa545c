use Rattle.ppm_picture.proofs.TextLemmas.{markup_last}
use Rattle.ppm_picture.proofs.markup.push_markup.Goals as goal

-- all parts
pub returns : goal.returns
returns c = markup_last c.args.text.now.items c.loop-left.text.items c.args.parts.now c.loop-left.left.now c.in_default.len_below c.loop-left.invariant

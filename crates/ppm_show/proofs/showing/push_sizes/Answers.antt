use Rattle.std.proofs.Common.{codes}
use Rattle.ppm_lines.proofs.TextLemmas.{five}
use Rattle.ppm_show.specs.Show.{size_text}
use Rattle.ppm_show.proofs.showing.push_sizes.Goals as goal

-- the pieces one after the other
pub returns : goal.returns
returns c =
    let s = c.args.shape.now in
    five (codes "ppm show 1\n") (size_text (codes "processors ") s.processors) (size_text (codes " room ") s.room) (size_text (codes " slots ") s.slots)
    (codes "\n") _ _ _ _ _ _ c.in_ok-push_word.ensures c.in_ok-push_size.ensures c.in_ok-push_size-2.ensures c.in_ok-push_size-3.ensures
    c.in_ok-push_word-2.ensures

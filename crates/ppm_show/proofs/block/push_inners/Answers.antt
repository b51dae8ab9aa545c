use Rattle.ppm_show.specs.Lines.{inner_text}
use Rattle.ppm_show.proofs.TextLemmas.{next_from_one}
use Rattle.ppm_show.proofs.block.push_inners.Goals as goal

-- a word more
pub loop-offset-preserved : goal.loop-offset-preserved
loop-offset-preserved c =
    next_from_one (inner_text c.args.scene.now c.args.at c.args.is_fork) c.args.text.now.items c.loop-offset.text.items c.push_inner.new.text.items
    c.loop-offset.offset (c.loop-offset.auto.offset) c.loop-offset.invariant c.in_ok-push_inner.ensures

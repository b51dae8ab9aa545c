use Rattle.std.proofs.Common.{◌∙◌}
use Rattle.ppm_tree.specs.Tree.{block_of}
use Rattle.ppm_cut_bounds.proofs.Notes.{once_from, counted}
use Rattle.ppm_excess.proofs.outside.outside_count.Goals as goal

-- what was noted has each name of outside once
pub returns : goal.returns
returns c =
    c.caught_count.ensures ∙ counted c.args.index.now c.args.part.now (block_of c.args.block.now) (once_from c.new-walk.ensures c.in_ok-in_block_with.ensures)

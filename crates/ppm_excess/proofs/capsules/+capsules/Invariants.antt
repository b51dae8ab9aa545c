use Rattle.std.proofs.Common.{◌≡◌, ◌+◌, drop}
use Rattle.ppm_tree.specs.Tree.{block_of}
use Rattle.ppm_tree.specs.Parts.{statements_in}
use Rattle.ppm_cut_bounds.proofs.Sums.{need}
use Rattle.ppm_excess.proofs.capsules.+capsules.Given as goal

-- the capsules so far, and those of the rest
abbrev pub invariant-in_block-loop-statement : goal.invariant-in_block-loop-statement
invariant-in_block-loop-statement l =
    l.count + need (statements_in (block_of (drop l.statement-index l.block))) ≡ need (statements_in (block_of l.block))

use Rattle.std.proofs.Common.{◌≡◌, ◌+◌, drop}
use Rattle.ppm_tree.specs.Tree.{block_of}
use Rattle.ppm_tree.specs.Parts.{statements_in}
use Rattle.ppm_cut_bounds.proofs.Sums.{need}
use Rattle.ppm_cut_bounds.proofs.capsules.+capsules.Given as goal

-- what is left, and what the statements so far need
abbrev pub invariant-left_by_block-loop-statement : goal.invariant-left_by_block-loop-statement
invariant-left_by_block-loop-statement l =
    l.rest + need (statements_in (block_of l.block)) ≡ l.left + need (statements_in (block_of (drop l.statement-index l.block)))

use Rattle.std.proofs.Common.{◌≡◌, drop, length}
use Rattle.ppm_tree.specs.Tree.{block_of}
use Rattle.ppm_cut_bounds.proofs.Notes.{InBlock}
use Rattle.ppm_excess.proofs.outside.+outside.Given as goal

-- the names after this are still to come
abbrev pub invariant-in_block-loop-statement : goal.invariant-in_block-loop-statement
invariant-in_block-loop-statement l =
    InBlock (block_of l.block) (block_of (drop l.statement-index l.block)) l.initial.walk l.walk × (l.before ≡ length l.initial.walk.own)

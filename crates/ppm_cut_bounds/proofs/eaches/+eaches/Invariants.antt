use Rattle.std.proofs.Common.{◌≡◌, ◌↔◌, drop, length}
use Rattle.ppm_tree.specs.Tree.{block_of}
use Rattle.ppm_tree.specs.Parts.{statements_in}
use Rattle.ppm_cut_bounds.specs.Bounds.{KeepsAt}
use Rattle.ppm_cut_bounds.proofs.Notes.{InBlock}
use Rattle.ppm_cut_bounds.proofs.eaches.+eaches.Given as goal

-- the names that follow are still to come, and a bound is kept exactly where it is kept after them
abbrev pub invariant-in_block-loop-statement : goal.invariant-in_block-loop-statement
invariant-in_block-loop-statement l =
    InBlock (block_of l.block) (block_of (drop l.statement-index l.block)) l.initial.walk l.walk
    × (l.before ≡ length l.initial.walk.own)
    × (KeepsAt l.bound (statements_in (block_of l.block)) ↔ KeepsAt l.bound (statements_in (block_of (drop l.statement-index l.block))))

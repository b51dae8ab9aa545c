use Rattle.std.proofs.Common.{◌≡◌, drop}
use Rattle.ppm_tree.specs.Tree.{block_of}
use Rattle.ppm_cut_bounds.specs.Sought.{has_each}
use Rattle.ppm_cut_bounds.proofs.sought.+sought.Given as goal

-- the rest has one exactly where the block does
abbrev pub invariant-has_each-loop-statement : goal.invariant-has_each-loop-statement
invariant-has_each-loop-statement l = has_each (block_of (drop l.statement-index l.block)) ≡ has_each (block_of l.block)

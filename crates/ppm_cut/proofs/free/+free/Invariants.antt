use Rattle.std.proofs.Common.{◌≡◌, drop}
use Rattle.ppm_tree.specs.Tree.{block_of}
use Rattle.ppm_cut_bounds.specs.Names.{free_names}
use Rattle.ppm_cut_bounds.specs.Catching.{has}
use Rattle.ppm_cut.proofs.free.+free.Given as goal

-- the rest names it exactly where the block does
abbrev pub invariant-is_free-loop-statement : goal.invariant-is_free-loop-statement
invariant-is_free-loop-statement l = has (free_names (block_of (drop l.statement-index l.block))) l.name ≡ has (free_names (block_of l.block)) l.name

use Rattle.std.proofs.Common.{take}
use Rattle.ppm_tree.specs.Tree.{block_of, tree_of}
use Rattle.ppm_regions.specs.Scope.{scope_behind}
use Rattle.ppm_regions.specs.Kept.{Becomes, seen}
use Rattle.ppm_regions.specs.Uses.{sites_of_block}
use Rattle.ppm_regions.specs.Deciding.{IsLeast}
use Rattle.ppm_regions.proofs.walk.+block.Given as goal

-- the first fault of the statements so far, and what they leave in force
abbrev pub invariant-in_block-loop-statement : goal.invariant-in_block-loop-statement
invariant-in_block-loop-statement l = record {
  least : IsLeast (tree_of l.procedures) (sites_of_block (tree_of l.procedures) (seen l.fn.scope) (block_of (take l.statement-index l.block))) l.found;
  scope : Becomes (λ s. scope_behind s (block_of (take l.statement-index l.block))) l.fn.scope l.scope;
}

use Rattle.std.proofs.Common.{◌≡◌, drop}
use Rattle.ppm_tree.specs.Tree.{block_of}
use Rattle.ppm_cut_code.specs.Slots.{has_assignment}
use Rattle.ppm_cut.proofs.slots.+assigns.Given as goal

-- the rest assigns to an element exactly where the block does
abbrev pub invariant-has_assignment-loop-statement : goal.invariant-has_assignment-loop-statement
invariant-has_assignment-loop-statement l = has_assignment (block_of (drop l.statement-index l.block)) ≡ has_assignment (block_of l.block)

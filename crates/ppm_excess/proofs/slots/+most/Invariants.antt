use Rattle.std.proofs.Common.{◌≡◌, ◌+◌, drop, max}
use Rattle.ppm_tree.specs.Tree.{block_of}
use Rattle.ppm_cut_bounds.specs.Slots.{most_in_force}
use Rattle.ppm_excess.proofs.slots.+most.Given as goal

-- the most so far, with those of the rest above the names declared so far
abbrev pub invariant-most_in_force-loop-statement : goal.invariant-most_in_force-loop-statement
invariant-most_in_force-loop-statement l =
    max l.most (l.lets + most_in_force (block_of (drop l.statement-index l.block))) ≡ most_in_force (block_of l.block)

use Rattle.std.proofs.Common.{◌≡◌, ◌≤◌, ◌+◌, ◌*◌, suc, drop, max}
use Rattle.ppm_tree.specs.Tree.{statement_of, block_of}
use Rattle.ppm_cut.specs.Counts.{own_count, own_count_in, hidden_count, hidden_count_in}
use Rattle.ppm_cut_bounds.specs.Slots.{most_in_force}
use Rattle.ppm_cut.proofs.slots.+names.Given as goal

-- the most so far, with those of the rest above the names declared so far; and what counts after them
abbrev pub invariant-most_in_force-loop-statement : goal.invariant-most_in_force-loop-statement
invariant-most_in_force-loop-statement l =
    (max l.most (l.lets + most_in_force (block_of (drop l.statement-index l.block))) ≡ most_in_force (block_of l.block))
    × (2 * l.lets + own_count_in (block_of (drop l.statement-index l.block)) ≤ own_count_in (block_of l.block))
    × (2 * l.most ≤ own_count_in (block_of l.block))
    × (own_count_in (block_of (drop l.statement-index l.block)) ≤ own_count_in (block_of l.block))
    × (hidden_count_in (block_of (drop l.statement-index l.block)) ≤ hidden_count_in (block_of l.block))

-- a block counts less than the statement that it is in, and a statement less than its block
abbrev pub decreases-most_within : goal.decreases-most_within
decreases-most_within l = 2 * (own_count (statement_of l.statement.now) + hidden_count (statement_of l.statement.now))

abbrev pub decreases-most_in_force : goal.decreases-most_in_force
decreases-most_in_force l = suc (2 * (own_count_in (block_of l.block.now) + hidden_count_in (block_of l.block.now)))

use Rattle.std.proofs.Common.{◌≡◌, ◌≤◌, ◌+◌, ◌*◌, suc, drop}
use Rattle.ppm_tree.specs.Tree.{statement_of, block_of}
use Rattle.ppm_cut.specs.Counts.{own_count, own_count_in, hidden_count, hidden_count_in}
use Rattle.ppm_cut_code.specs.Numbers.{end_of}
use Rattle.ppm_cut.proofs.counts.+capsules.Given as goal

-- the number after the statements so far, and what those after count
abbrev pub invariant-end_of-loop-statement : goal.invariant-end_of-loop-statement
invariant-end_of-loop-statement l =
    (end_of (block_of (drop l.statement-index l.block)) l.next ≡ end_of (block_of l.block) l.at)
    × (l.next + own_count_in (block_of (drop l.statement-index l.block)) ≤ l.at + own_count_in (block_of l.block))
    × (own_count_in (block_of (drop l.statement-index l.block)) ≤ own_count_in (block_of l.block))
    × (hidden_count_in (block_of (drop l.statement-index l.block)) ≤ hidden_count_in (block_of l.block))

-- a block counts less than the statement that it is in, and a statement less than its block
abbrev pub decreases-behind : goal.decreases-behind
decreases-behind l = 2 * (own_count (statement_of l.statement.now) + hidden_count (statement_of l.statement.now))

abbrev pub decreases-end_of : goal.decreases-end_of
decreases-end_of l = suc (2 * (own_count_in (block_of l.block.now) + hidden_count_in (block_of l.block.now)))

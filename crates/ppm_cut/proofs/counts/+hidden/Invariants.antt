use Rattle.std.proofs.Common.{◌≡◌, ◌≤◌, ◌+◌, ◌*◌, suc, drop}
use Rattle.ppm_tree.specs.Tree.{statement_of, block_of}
use Rattle.ppm_cut.specs.Counts.{own_count, own_count_in, hidden_count, hidden_count_in}
use Rattle.ppm_cut_code.specs.Numbers.{hidden_behind_block}
use Rattle.ppm_cut.proofs.counts.+hidden.Given as goal

-- the number after the statements so far, and what those after count
abbrev pub invariant-hidden_behind_block-loop-statement : goal.invariant-hidden_behind_block-loop-statement
invariant-hidden_behind_block-loop-statement l =
    (hidden_behind_block (block_of (drop l.statement-index l.block)) l.next ≡ hidden_behind_block (block_of l.block) l.hidden)
    × (l.next + hidden_count_in (block_of (drop l.statement-index l.block)) ≤ l.hidden + hidden_count_in (block_of l.block))
    × (own_count_in (block_of (drop l.statement-index l.block)) ≤ own_count_in (block_of l.block))
    × (hidden_count_in (block_of (drop l.statement-index l.block)) ≤ hidden_count_in (block_of l.block))

-- a block counts less than the statement that it is in, and a statement less than its block
abbrev pub decreases-hidden_behind : goal.decreases-hidden_behind
decreases-hidden_behind l = 2 * (own_count (statement_of l.statement.now) + hidden_count (statement_of l.statement.now))

abbrev pub decreases-hidden_behind_block : goal.decreases-hidden_behind_block
decreases-hidden_behind_block l = suc (2 * (own_count_in (block_of l.block.now) + hidden_count_in (block_of l.block.now)))

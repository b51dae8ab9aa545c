use Rattle.std.proofs.Common.{◌≡◌, ◌≤◌, ◌+◌, ◌*◌, ◌++◌, suc, drop}
use Rattle.ppm_tree.specs.Tree.{statement_of, block_of}
use Rattle.ppm_cut.specs.Counts.{own_count, own_count_in, hidden_count, hidden_count_in}
use Rattle.ppm_trace_command.specs.TraceNames.{hidden_names_in}
use Rattle.ppm_trace_command.proofs.trace_names.+hidden.Given as goal

-- the names so far, and those of the statements that are left, which count no more than the block
abbrev pub invariant-push_hidden_in-loop-statement : goal.invariant-push_hidden_in-loop-statement
invariant-push_hidden_in-loop-statement l =
    (l.names.items ++ hidden_names_in (block_of (drop l.statement-index l.block)) ≡ l.initial.names.items ++ hidden_names_in (block_of l.block))
    × (own_count_in (block_of (drop l.statement-index l.block)) ≤ own_count_in (block_of l.block))
    × (hidden_count_in (block_of (drop l.statement-index l.block)) ≤ hidden_count_in (block_of l.block))

-- a block counts less than the statement that it is in, and a statement less than its block
abbrev pub decreases-push_hidden : goal.decreases-push_hidden
decreases-push_hidden l = 2 * (own_count (statement_of l.statement.now) + hidden_count (statement_of l.statement.now))

abbrev pub decreases-push_hidden_in : goal.decreases-push_hidden_in
decreases-push_hidden_in l = suc (2 * (own_count_in (block_of l.block.now) + hidden_count_in (block_of l.block.now)))

use Rattle.std.proofs.Common.{◌≡◌, ◌≤◌, ◌+◌, ◌*◌, suc, drop, map, length}
use Rattle.ppm_tree.specs.Tree.{statement_of, block_of, procedure_of}
use Rattle.ppm_cut.specs.Counts.{count_limit, own_count, own_count_in, hidden_count, hidden_count_in, IsShortBlock}
use Rattle.ppm_cut.proofs.Bodies.{Extends}
use Rattle.ppm_cut.proofs.Drafting.{Rest}
use Rattle.ppm_cut.proofs.draft.Draft.+hidden.Given as goal

-- what was added, and what is to be added for the statements that follow; these have room
abbrev pub invariant-push_hidden_block-loop-statement : goal.invariant-push_hidden_block-loop-statement
invariant-push_hidden_block-loop-statement l =
    let rest = block_of (drop l.statement-index l.block) in
    record {
      whole : Rest (map procedure_of l.callees) l.initial.layout l.hidden (block_of l.block) l.layout l.next rest l.initial.self l.self;
      number : length l.self.procedures.items ≡ l.next;
      names : length l.layout + (own_count_in rest + hidden_count_in rest) ≤ count_limit;
      capsules_fit : l.self.next + hidden_count_in rest ≤ l.initial.self.next + hidden_count_in (block_of l.block);
      hidden_fit : l.next + hidden_count_in rest ≤ count_limit;
      short : IsShortBlock rest;
      own : own_count_in rest ≤ own_count_in (block_of l.block);
      within : hidden_count_in rest ≤ hidden_count_in (block_of l.block);
      extends : Extends l.initial.layout l.layout;
    }

-- a block counts less than the statement that it is in, and a statement less than its block
abbrev pub decreases-push_hidden : goal.decreases-push_hidden
decreases-push_hidden l = 2 * (own_count (statement_of l.statement.now) + hidden_count (statement_of l.statement.now))

abbrev pub decreases-push_hidden_block : goal.decreases-push_hidden_block
decreases-push_hidden_block l = suc (2 * (own_count_in (block_of l.block.now) + hidden_count_in (block_of l.block.now)))

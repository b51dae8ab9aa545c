use Rattle.std.proofs.Common.{◌≡◌, ◌≤◌, ◌+◌, ◌*◌, ◌++◌, suc, drop, map, length}
use Rattle.ppm_tree.specs.Tree.{statement_of, block_of, procedure_of}
use Rattle.ppm_cut.specs.Counts.{count_limit, own_count, own_count_in, hidden_count, hidden_count_in, IsShortBlock}
use Rattle.ppm_cut.specs.Growth.{last_of}
use Rattle.ppm_cut.proofs.Bodies.{Extends, rest_of}
use Rattle.ppm_cut.proofs.body.+body.Given as goal

-- the capsules so far, and those of the statements that follow; these have room
abbrev pub invariant-push_block-loop-statement : goal.invariant-push_block-loop-statement
invariant-push_block-loop-statement l =
    let rest = block_of (drop l.statement-index l.block) in
    let procedures = map procedure_of l.maker.callees.now in
    record {
      whole : l.initial.capsules.items ++ rest_of procedures l.maker.home.procedure l.maker.home.spare (last_of l.last) l.initial.layout l.fn.numbers.capsule l.fn.numbers.hidden (block_of l.block)
          ≡ l.capsules.items ++ rest_of procedures l.maker.home.procedure l.maker.home.spare (last_of l.last) l.layout l.next.capsule l.next.hidden rest;
      names : length l.layout + (own_count_in rest + hidden_count_in rest) ≤ count_limit;
      capsules_fit : l.next.capsule + own_count_in rest ≤ count_limit;
      hidden_fit : l.next.hidden + hidden_count_in rest ≤ count_limit;
      short : IsShortBlock rest;
      own : own_count_in rest ≤ own_count_in (block_of l.block);
      within : hidden_count_in rest ≤ hidden_count_in (block_of l.block);
      extends : Extends l.initial.layout l.layout;
    }

-- a block counts less than the statement that it is in, and a statement less than its block
abbrev pub decreases-push_statement : goal.decreases-push_statement
decreases-push_statement l = 2 * (own_count (statement_of l.statement.now) + hidden_count (statement_of l.statement.now))

abbrev pub decreases-push_block : goal.decreases-push_block
decreases-push_block l = suc (2 * (own_count_in (block_of l.block.now) + hidden_count_in (block_of l.block.now)))

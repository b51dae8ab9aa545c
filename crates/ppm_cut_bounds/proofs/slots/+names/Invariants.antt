use Rattle.std.proofs.Common.{◌↔◌, ◌≤◌, drop}
use Rattle.ppm_tree.specs.Tree.{block_of}
use Rattle.ppm_cut_bounds.specs.Slots.{most_in_force}
use Rattle.ppm_cut_bounds.proofs.slots.+names.Given as goal

-- the slots are enough exactly where those left are enough for the rest
abbrev pub invariant-names_fit-loop-statement : goal.invariant-names_fit-loop-statement
invariant-names_fit-loop-statement l = most_in_force (block_of l.block) ≤ l.room ↔ most_in_force (block_of (drop l.statement-index l.block)) ≤ l.left

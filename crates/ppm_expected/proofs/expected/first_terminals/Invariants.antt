use Rattle.std.proofs.Common.{length}
use Rattle.ppm_expected.proofs.FollowLemmas.{Collects}
use Rattle.ppm_expected.proofs.expected.first_terminals.Given as goal

-- all that can come first is found, or is left
abbrev pub invariant-terminals : goal.invariant-terminals
invariant-terminals l = Collects l.fn.stack l.all.items l.left

abbrev pub decreases-terminals : goal.decreases-terminals
decreases-terminals l = length l.left

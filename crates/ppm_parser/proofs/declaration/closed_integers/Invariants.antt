use Rattle.std.proofs.Common.{length, ◌≡◌}
use Rattle.ppm_parser.proofs.Declarations.{Values}
use Rattle.ppm_parser.proofs.declaration.closed_integers.Given as goal

-- all so far were read, and more may come; the room is as it was
abbrev pub invariant-integers : goal.invariant-integers
invariant-integers l = Values l.fn.all.items l.fn.at.tokens.now l.all.items l.behind.tokens.now × (l.behind.room ≡ l.fn.at.room)

abbrev pub decreases-integers : goal.decreases-integers
decreases-integers l = length l.behind.tokens.now

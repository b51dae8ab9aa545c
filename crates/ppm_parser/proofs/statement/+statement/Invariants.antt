use Rattle.std.proofs.Common.{length, ◌+◌, ◌*◌}
use Rattle.ppm_parser.proofs.Statements.{Runs}
use Rattle.ppm_parser.proofs.statement.+statement.Given as goal

abbrev pub decreases-block : goal.decreases-block
decreases-block l = 4 * length l.at.tokens.now

abbrev pub decreases-choice : goal.decreases-choice
decreases-choice l = 4 * length l.at.tokens.now + 1

abbrev pub decreases-repeated : goal.decreases-repeated
decreases-repeated l = 4 * length l.at.tokens.now + 1

abbrev pub decreases-split : goal.decreases-split
decreases-split l = 4 * length l.at.tokens.now + 1

abbrev pub decreases-each : goal.decreases-each
decreases-each l = 4 * length l.at.tokens.now + 1

abbrev pub decreases-statement : goal.decreases-statement
decreases-statement l = 4 * length l.at.tokens.now + 2

abbrev pub decreases-statements : goal.decreases-statements
decreases-statements l = 4 * length l.at.tokens.now + 3

-- all so far were read, and more may come
abbrev pub invariant-statements-further : goal.invariant-statements-further
invariant-statements-further l = Runs l.depth l.fn.at.room l.fn.at.tokens.now l.all.items l.behind.room l.behind.tokens.now

abbrev pub decreases-statements-further : goal.decreases-statements-further
decreases-statements-further l = length l.behind.tokens.now

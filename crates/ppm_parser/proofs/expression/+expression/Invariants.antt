use Rattle.std.proofs.Common.{length, ◌+◌, ◌*◌, ℕ}
use Rattle.ppm_rows.specs.declared.level.Level.{Level}
use Rattle.ppm_rows.specs.declared.level.Level.TheVariants as level
use Rattle.ppm_parser.proofs.expression.+expression.Given as goal

-- how many levels are below
abbrev rank : Level → ℕ
rank level.Either = 4
rank level.Both = 3
rank level.Comparison = 2
rank level.Sum = 1
rank level.Product = 0

abbrev pub decreases-operand : goal.decreases-operand
decreases-operand l = 16 * length l.at.tokens.now

abbrev pub decreases-named : goal.decreases-named
decreases-named l = 16 * length l.at.tokens.now

abbrev pub decreases-up_to : goal.decreases-up_to
decreases-up_to l = 16 * length l.at.tokens.now + 15

abbrev pub decreases-operation : goal.decreases-operation
decreases-operation l = 16 * length l.at.tokens.now + (2 * rank l.level + 2)

abbrev pub decreases-operand_of : goal.decreases-operand_of
decreases-operand_of l = 16 * length l.at.tokens.now + (2 * rank l.level + 1)

abbrev pub decreases-further : goal.decreases-further
decreases-further l = 16 * length l.at.tokens.now

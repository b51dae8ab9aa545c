use Rattle.std.proofs.Common.{length}
use Rattle.ppm_parser.specs.Declarations.{declared_tree}
use Rattle.ppm_parser.proofs.Programs.{Goes}
use Rattle.ppm_parser.proofs.parsing.tree.Given as goal

-- all so far was declared, and more may come
abbrev pub invariant-declarations : goal.invariant-declarations
invariant-declarations l = Goes l.tokens (declared_tree l.declared) l.at.room l.at.tokens.now

abbrev pub decreases-declarations : goal.decreases-declarations
decreases-declarations l = length l.at.tokens.now

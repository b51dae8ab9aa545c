use Rattle.std.proofs.Common.{length}
use Rattle.ppm_parser.proofs.Parameters.{ParametersGo}
use Rattle.ppm_parser.proofs.parameter.closed_parameters.Given as goal

-- all so far were read, and more may come
abbrev pub invariant-parameters : goal.invariant-parameters
invariant-parameters l = ParametersGo l.depth l.fn.at.room l.fn.at.tokens.now l.all.items l.behind.room l.behind.tokens.now

abbrev pub decreases-parameters : goal.decreases-parameters
decreases-parameters l = length l.behind.tokens.now

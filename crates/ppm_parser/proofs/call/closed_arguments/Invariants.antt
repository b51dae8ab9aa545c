use Rattle.std.proofs.Common.{length, map}
use Rattle.ppm_parser.specs.Statements.{argument_of}
use Rattle.ppm_parser.proofs.Calls.{ArgumentsGo}
use Rattle.ppm_parser.proofs.call.closed_arguments.Given as goal

-- all so far were read, and more may come
abbrev pub invariant-arguments : goal.invariant-arguments
invariant-arguments l = ArgumentsGo l.depth l.fn.at.room l.fn.at.tokens.now (map argument_of l.all.items) l.behind.room l.behind.tokens.now

abbrev pub decreases-arguments : goal.decreases-arguments
decreases-arguments l = length l.behind.tokens.now

use Rattle.std.proofs.Common.{arith}
use Rattle.ppm_cut.proofs.Pairs.{paired_is}
use Rattle.ppm_cut.proofs.size.paired.Goals as goal

pub returns-clause-value : goal.returns-clause-value
returns-clause-value c = let h = paired_is c.args.parameters.now c.args.arguments.now in grind (arith, h)

-- By the procedure's entry.
use Rattle.std.proofs.Common.{subst}
use Rattle.ppm_interleaving.specs.Steps.{IsBegun}
use Rattle.ppm_interleaving.proofs.ending.begun.Goals as goal

pub returns : goal.returns
returns c = subst (λ n. IsBegun n c.args.own c.new.result) c.entry_of.ensures c.new.ensures

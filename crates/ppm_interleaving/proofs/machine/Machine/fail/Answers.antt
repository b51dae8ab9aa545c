-- The strand is taken out, and is put back at the beginning of its capsule.
use Rattle.std.proofs.Common.{set, ap}
use Rattle.ppm_depth.specs.declared.frame.Finish.TheVariants.{Gave}
use Rattle.ppm_interleaving.specs.declared.strand.Strand.TheVariants.{Tells}
use Rattle.ppm_interleaving.proofs.PutLemmas.{fails_back}
use Rattle.ppm_interleaving.proofs.machine.Machine.fail.Goals as goal

pub returns : goal.returns
returns c = λ code root arrays.
    fails_back code c.args.self.now _ c.args.strand c.take-taken.result c.failed.result (Tells (Gave 0)) c.take-taken.ensures.there c.requires
    c.failed.ensures (ap (λ xs. set xs c.args.strand c.failed.result) c.take-taken.ensures.strands) c.take-taken.ensures.words root arrays

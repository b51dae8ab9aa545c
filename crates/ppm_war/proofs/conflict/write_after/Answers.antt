use Rattle.std.proofs.Common.{subst}
use Rattle.ppm_code.specs.Paths.{Does}
use Rattle.ppm_code.specs.declared.class.May.{May}
use Rattle.ppm_war.proofs.ConflictLemmas.{first_in_conflict}
use Rattle.ppm_war.proofs.DecodedLemmas.{does_at}
use Rattle.ppm_war.proofs.conflict.write_after.Goals as goal

-- the read is exposed, so the first write to which a path leads is in conflict
pub returns : goal.returns
returns c = λ is d exposed first.
    let reads = subst (λ (m : May). Does is c.args.read_at m) (c.reads.ensures.0 c.if-not-reads.false)
    (does_at is c.args.mays.now c.args.read_at _ d c.requires.there) in
    first_in_conflict is c.args.read_at c.args.class _ reads (exposed.0 c.if-not-before-read_at.false) first

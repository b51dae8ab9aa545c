use Rattle.std.proofs.Common.{arith, refl}
use Rattle.ppm_regions.proofs.CallLemmas.{lends_twice, lends_once}
use Rattle.ppm_regions.proofs.lending.beside.Goals as goal

-- one in front of it clashes
pub returns-then-has_clash : goal.returns-then-has_clash
returns-then-has_clash c = λ t s. rw c.line.ensures (lends_twice t s c.args.front.now c.args.lending.now (c.has_clash.ensures.0 (cc)))

-- none does
pub returns : goal.returns
returns c = λ t s. lends_once t s c.args.front.now c.args.lending.now (λ one. let told = c.has_clash.ensures.1 one in absurd (cc))

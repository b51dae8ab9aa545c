use Rattle.std.proofs.Common.{refl}
use Rattle.ppm_gaps.proofs.BlockLemmas.{has}
use Rattle.ppm_gaps.proofs.blocks.is_other_by.Goals as goal

-- there is one
pub returns-in-Some : goal.returns-in-Some
returns-in-Some c = (λ t. has c.args.instrs.now c.args.other _ c.in-Some.ensures, λ h. refl)

-- or none
pub returns-in-None : goal.returns-in-None
returns-in-None c = (λ f. cc, λ h. absurd (c.in-None.ensures h))

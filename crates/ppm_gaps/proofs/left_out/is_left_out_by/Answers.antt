use Rattle.std.proofs.Common.{refl}
use Rattle.ppm_gaps.proofs.LeftOutLemmas.{has}
use Rattle.ppm_gaps.proofs.left_out.is_left_out_by.Goals as goal

-- there is one
pub returns-in-Some : goal.returns-in-Some
returns-in-Some c = (λ t. has c.args.instrs.now c.args.find c.args.write _ c.in-Some.ensures, λ h. refl)

-- or none
pub returns-in-None : goal.returns-in-None
returns-in-None c = (λ f. cc, λ h. absurd (c.in-None.ensures h))

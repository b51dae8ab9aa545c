use Rattle.ppm_gaps.proofs.FlawLemmas.{flaws_tell_codes as law}
use Rattle.ppm_gaps.proofs.laws.flaws_tell_codes.Goals as goal

-- the law
pub returns : goal.returns
returns c = law

use Rattle.ppm_racy_gaps.proofs.FlawLemmas.{flaws_tell_codes}
use Rattle.ppm_racy_gaps.proofs.laws.racy_flaws_tell_codes.Goals as goal

-- from what flaws tell of the code with puts
pub returns : goal.returns
returns c = flaws_tell_codes c.flaws_tell_codes.ensures

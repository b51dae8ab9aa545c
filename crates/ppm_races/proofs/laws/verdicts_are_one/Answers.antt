use Rattle.ppm_races.proofs.OneVerdictLemmas.{verdicts_are_one}
use Rattle.ppm_races.proofs.laws.verdicts_are_one.Goals as goal

-- by their cases
pub returns : goal.returns
returns c = λ code input limit v w p q. verdicts_are_one code input limit v w p q

-- Part by part.
use Rattle.ppm_racy.proofs.PlainLemmas.{plain_codes}
use Rattle.ppm_racy.proofs.laws.plain_codes_race_as_before.Goals as goal

pub returns : goal.returns
returns c = plain_codes

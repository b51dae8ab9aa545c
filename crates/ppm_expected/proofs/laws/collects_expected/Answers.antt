use Rattle.ppm_expected.proofs.NextLemmas as next
use Rattle.ppm_expected.proofs.laws.collects_expected.Goals as goal

-- by what is left of the stack
pub returns : goal.returns
returns g c = record { law = next.collects_expected }

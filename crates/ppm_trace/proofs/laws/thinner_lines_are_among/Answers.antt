use Rattle.ppm_trace.proofs.AlongLemmas.{thinner}
use Rattle.ppm_trace.proofs.laws.thinner_lines_are_among.Goals as goal

-- turn by turn
pub returns : goal.returns
returns c = record { law = thinner }

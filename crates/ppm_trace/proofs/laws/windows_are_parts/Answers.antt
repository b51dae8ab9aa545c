use Rattle.ppm_trace.proofs.WindowLemmas.{windows}
use Rattle.ppm_trace.proofs.laws.windows_are_parts.Goals as goal

-- no line before, and the same lines after
pub returns : goal.returns
returns c = record { law = windows }

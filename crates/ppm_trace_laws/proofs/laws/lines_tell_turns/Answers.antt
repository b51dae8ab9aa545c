use Rattle.ppm_trace_laws.proofs.RunLemmas.{lines_tell}
use Rattle.ppm_trace_laws.proofs.laws.lines_tell_turns.Goals as goal

-- line by line
pub returns : goal.returns
returns c = record { law = lines_tell c.addresses_name_cells.ensures.law }

use Rattle.ppm_trace_laws.proofs.RunLemmas.{traces_tell}
use Rattle.ppm_trace_laws.proofs.laws.traces_tell_turns.Goals as goal

-- line by line, up to the tail
pub returns : goal.returns
returns c = record { law = traces_tell c.addresses_name_cells.ensures.law }

use Rattle.ppm_table.proofs.SumLemmas.{tells_turns}
use Rattle.ppm_table.proofs.laws.act_counts_tell_turns.Goals as goal

pub returns : goal.returns
returns c = record { law = tells_turns }

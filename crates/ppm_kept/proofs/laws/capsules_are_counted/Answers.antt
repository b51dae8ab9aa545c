use Rattle.ppm_kept.proofs.CountLemmas.{capsules_are_counted, counts_are_exact, heirs_count_none}
use Rattle.ppm_kept.proofs.laws.capsules_are_counted.Goals as goal

pub returns : goal.returns
returns c = record { law = capsules_are_counted; exact = counts_are_exact; heirs = heirs_count_none }

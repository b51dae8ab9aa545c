use Rattle.ppm_choice.proofs.UnfinishedLemmas.{unfinished_is_exact, none_quits}
use Rattle.ppm_choice.proofs.schedule_laws.unfinished_is_exact.Goals as goal

pub returns : goal.returns
returns c = record { exact = unfinished_is_exact; none_quits = none_quits }

use Rattle.ppm_progress.proofs.FreshLemmas.{left_comes_later}
use Rattle.ppm_progress.proofs.FreshTurns.{fresh_stay}
use Rattle.ppm_progress.proofs.laws.left_comes_later.Goals as goal

pub returns : goal.returns
returns c = record { law = left_comes_later; stay = fresh_stay }

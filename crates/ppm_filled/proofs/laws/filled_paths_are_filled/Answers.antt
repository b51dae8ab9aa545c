-- The law.
use Rattle.ppm_filled.proofs.CodeLemmas.{each}
use Rattle.ppm_filled.proofs.laws.filled_paths_are_filled.Goals as goal

pub returns : goal.returns
returns c = each

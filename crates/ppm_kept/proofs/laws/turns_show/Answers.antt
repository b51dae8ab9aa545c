use Rattle.ppm_kept.proofs.BeginLemmas.{machines_open}
use Rattle.ppm_kept.proofs.StateLemmas.{turns_show}
use Rattle.ppm_kept.proofs.laws.turns_show.Goals as goal

pub returns : goal.returns
returns c = record { turns = turns_show; opens = machines_open }

use Rattle.ppm_advance.proofs.AdvanceLemmas.{ready, all_stay, all_there}
use Rattle.ppm_advance.proofs.laws.advancing_trees_are_ready.Goals as goal

pub returns : goal.returns
returns c = record { law = ready; stay = all_stay; there = all_there }

use Rattle.ppm_kept.proofs.BirthLemmas.{births_stay, openings_have_none}
use Rattle.ppm_kept.proofs.SteadyLemmas.{rows_are_steady}
use Rattle.ppm_kept.proofs.laws.forks_are_new.Goals as goal

pub returns : goal.returns
returns c = record { stay = births_stay; openings = openings_have_none; steady = rows_are_steady }

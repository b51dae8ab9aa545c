use Rattle.ppm_stamps.specs.Stamps.{nothing, fresh}
use Rattle.ppm_stamps.proofs.ToldLemmas.{told}
use Rattle.ppm_stamps.proofs.laws.a_run_that_ends_is_told.Goals as goal

-- by induction on the bound
pub returns : goal.returns
returns c = λ start code n t a e h. told code n nothing t a fresh e h

use Rattle.ppm_paces.proofs.LookLemmas.{looks_are_free, searches_are_free}
use Rattle.ppm_paces.proofs.laws.looks_are_free.Goals as goal

pub returns : goal.returns
returns c = record { law = looks_are_free; searches = searches_are_free }

use Rattle.ppm_test_laws.proofs.RaceLemmas.{races_are_not_calm, races_beside_no_end_are_not_calm, no_end_beside}
use Rattle.ppm_test_laws.proofs.RaceLemmas.{races_lose_the_law, races_end_otherwise, apart_by_regions, apart_is_calm}
use Rattle.ppm_test_laws.proofs.races.races_are_not_calm.Goals as goal

-- by running them
pub returns : goal.returns
returns c = record {
  race = races_are_not_calm;
  beside_no_end = races_beside_no_end_are_not_calm;
  no_end = no_end_beside;
  law_is_lost = races_lose_the_law;
  ends_otherwise = races_end_otherwise;
  apart = apart_is_calm;
  by_regions = apart_by_regions;
}

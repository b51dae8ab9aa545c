use Rattle.ppm_listing_reader.proofs.LawLemmas.{one_fault, one_code, covers}
use Rattle.ppm_listing_reader.proofs.NoFaultLemmas.{excludes}
use Rattle.ppm_listing_reader.proofs.laws.faults_tell_listings.Goals as goal

pub returns : goal.returns
returns c = record { law = record { excludes = excludes; covers = covers; one_code = one_code; one_fault = one_fault } }

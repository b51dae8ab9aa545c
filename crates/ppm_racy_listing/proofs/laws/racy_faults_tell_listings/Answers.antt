-- By the law of listings.
use Rattle.ppm_racy_listing.proofs.LawLemmas.{told}
use Rattle.ppm_racy_listing.proofs.laws.racy_faults_tell_listings.Goals as goal

pub returns : goal.returns
returns c = told c.faults_tell_listings.ensures.law

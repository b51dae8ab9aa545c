use Rattle.ppm_listing.proofs.CodeLemmas.{listing_tells_code}
use Rattle.ppm_listing.proofs.laws.listings_tell_codes.Goals as goal

pub returns : goal.returns
returns c = record { law = listing_tells_code }

-- Line by line.
use Rattle.ppm_racy_listing.proofs.PlainListingLemmas.{plain_listings}
use Rattle.ppm_racy_listing.proofs.laws.plain_listings_stay.Goals as goal

pub returns : goal.returns
returns c = plain_listings

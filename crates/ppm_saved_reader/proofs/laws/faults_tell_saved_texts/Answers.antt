use Rattle.ppm_saved_reader.proofs.LengthLemmas.{text_short}
use Rattle.ppm_saved_reader.proofs.CoverLemmas.{covers, excludes, one_state}
use Rattle.ppm_saved_reader.proofs.PlaceLemmas.{one_fault}
use Rattle.ppm_saved_reader.proofs.laws.faults_tell_saved_texts.Goals as goal

-- from the law of listings
pub returns : goal.returns
returns c =
    let listings = c.faults_tell_listings.ensures.law in
    record {
      law = record {
        excludes = excludes;
        covers = covers listings;
        short = text_short;
        one_state = one_state;
        one = one_fault;
      };
    }

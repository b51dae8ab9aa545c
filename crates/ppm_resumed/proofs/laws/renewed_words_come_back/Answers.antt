use Rattle.ppm_resumed.proofs.ResumedLemmas.{come_back}
use Rattle.ppm_resumed.proofs.laws.renewed_words_come_back.Goals as goal

-- cell by cell
pub returns : goal.returns
returns c = record { law = come_back }

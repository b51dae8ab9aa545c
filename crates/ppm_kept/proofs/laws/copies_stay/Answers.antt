use Rattle.ppm_kept.proofs.CopyLemmas.{copies_stay, openings_have_copies}
use Rattle.ppm_kept.proofs.laws.copies_stay.Goals as goal

pub returns : goal.returns
returns c = record { steps = copies_stay; openings = openings_have_copies }

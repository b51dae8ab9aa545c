use Rattle.ppm_standing.proofs.StandLemmas.{stand_where_later}
use Rattle.ppm_standing.proofs.laws.stand_where_later.Goals as goal

pub returns : goal.returns
returns c = record { law = stand_where_later }

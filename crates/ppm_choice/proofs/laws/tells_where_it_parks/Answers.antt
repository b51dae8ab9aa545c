use Rattle.ppm_choice.proofs.ParkLemmas.{parks_where_it_rests, tells_record, tells_no_more}
use Rattle.ppm_choice.proofs.RecordLemmas.{tells_by_record}
use Rattle.ppm_choice.proofs.laws.tells_where_it_parks.Goals as goal

pub returns : goal.returns
returns c = record { parks = parks_where_it_rests; tells = tells_record; leaves = tells_no_more; alone = tells_by_record }

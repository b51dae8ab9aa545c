use Rattle.ppm_takeover.proofs.SoonRuns.{works_soon_by_places}
use Rattle.ppm_takeover.proofs.laws.work_turns_come_soon_by_places.Goals as goal

pub returns : goal.returns
returns c = record { law = works_soon_by_places }

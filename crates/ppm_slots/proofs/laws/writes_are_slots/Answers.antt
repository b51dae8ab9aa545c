use Rattle.ppm_slots.proofs.BlankLemmas.{writes_are_slots}
use Rattle.ppm_slots.proofs.laws.writes_are_slots.Goals as goal

pub returns : goal.returns
returns c = record { law = writes_are_slots }

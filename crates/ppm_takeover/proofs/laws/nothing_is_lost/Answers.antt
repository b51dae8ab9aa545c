use Rattle.ppm_takeover.proofs.CarriedRuns.{nothing_is_lost, nothing_is_lost_over_legs, held_are_carried}
use Rattle.ppm_takeover.proofs.laws.nothing_is_lost.Goals as goal

pub returns : goal.returns
returns c = record { law = nothing_is_lost; legs = nothing_is_lost_over_legs; carried = held_are_carried }

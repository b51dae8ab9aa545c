use Rattle.ppm_runs.proofs.EveryRunLemmas.{runs_are_orderly, legs_are_orderly, tickets_by_places, tickets_by_entries}
use Rattle.ppm_runs.proofs.LegTickets.{tickets_over_legs}
use Rattle.ppm_runs.proofs.moments.runs_are_orderly.Goals as goal

pub returns : goal.returns
returns c = record { law = runs_are_orderly; by_places = tickets_by_places; by_entries = tickets_by_entries; over_legs = legs_are_orderly; tickets_over_legs = tickets_over_legs }

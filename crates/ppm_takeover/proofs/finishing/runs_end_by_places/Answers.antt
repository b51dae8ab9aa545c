use Rattle.ppm_takeover.proofs.LapRuns.{laps_have_work_or_takeover, runs_end_by_places, legs_end_by_places}
use Rattle.ppm_takeover.proofs.finishing.runs_end_by_places.Goals as goal

pub returns : goal.returns
returns c = record { laps = laps_have_work_or_takeover; law = runs_end_by_places; legs = legs_end_by_places }

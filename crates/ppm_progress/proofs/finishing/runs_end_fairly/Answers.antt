use Rattle.ppm_progress.proofs.LapLemmas.{laps_are_there, laps_have_work, runs_end_fairly}
use Rattle.ppm_progress.proofs.finishing.runs_end_fairly.Goals as goal

pub returns : goal.returns
returns c = record { there = laps_are_there; laps = laps_have_work; law = runs_end_fairly }

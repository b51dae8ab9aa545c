use Rattle.ppm_progress.proofs.StuckLemmas.{orders_allow_both, deques_allow_idle_jobs, holders_allow_a_left_place}
use Rattle.ppm_progress.proofs.laws.single_facts_allow_stuck_pieces.Goals as goal

pub returns : goal.returns
returns c = record { orders = orders_allow_both; deques = deques_allow_idle_jobs; holders = holders_allow_a_left_place }

use Rattle.ppm_code.proofs.ConflictLemmas.{no_conflict_from, may_run_again}
use Rattle.ppm_code.proofs.laws.no_conflict_on_paths.Goals as goal

-- along the instructions, with a path for each read and for what is not written yet; then by the laws of capsules
pub returns : goal.returns
returns c = record { paths = no_conflict_from; again = may_run_again }

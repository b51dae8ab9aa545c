use Rattle.ppm_cells.proofs.JoinLemmas.{set_once}
use Rattle.ppm_cells.proofs.join_laws.order_words_are_set_once.Goals as goal

pub returns : goal.returns
returns c = record { law = set_once }

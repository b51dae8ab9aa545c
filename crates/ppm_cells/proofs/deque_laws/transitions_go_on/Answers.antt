use Rattle.ppm_cells.proofs.TransitionLemmas.{transitions_go_on}
use Rattle.ppm_cells.proofs.deque_laws.transitions_go_on.Goals as goal

pub returns : goal.returns
returns c = record { law = transitions_go_on }

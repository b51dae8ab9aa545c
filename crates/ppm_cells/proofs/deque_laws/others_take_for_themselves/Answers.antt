use Rattle.ppm_cells.proofs.DequeLemmas.{others_take_for_themselves}
use Rattle.ppm_cells.proofs.deque_laws.others_take_for_themselves.Goals as goal

pub returns : goal.returns
returns c = record { law = λ how place. others_take_for_themselves how place }

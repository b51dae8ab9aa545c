use Rattle.ppm_cells.proofs.DequeLemmas.{taken_stays, taken_stays_on_board}
use Rattle.ppm_cells.proofs.deque_laws.taken_entries_stay.Goals as goal

pub returns-clause-deque : goal.returns-clause-deque
returns-clause-deque c = λ how. taken_stays how

pub returns-clause-board : goal.returns-clause-board
returns-clause-board c = taken_stays_on_board

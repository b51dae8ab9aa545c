use Rattle.ppm_cells.proofs.DequeLemmas.{entries_never_return, board_never_returns}
use Rattle.ppm_cells.proofs.deque_laws.entries_never_return.Goals as goal

pub returns-clause-deque : goal.returns-clause-deque
returns-clause-deque c = λ how. entries_never_return how

pub returns-clause-board : goal.returns-clause-board
returns-clause-board c = board_never_returns

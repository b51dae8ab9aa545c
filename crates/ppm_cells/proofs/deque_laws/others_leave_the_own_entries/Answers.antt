use Rattle.ppm_cells.proofs.DequeLemmas.{others_leave_own, own_stays}
use Rattle.ppm_cells.proofs.deque_laws.others_leave_the_own_entries.Goals as goal

pub returns-clause-taken : goal.returns-clause-taken
returns-clause-taken c = λ how place. others_leave_own how place

pub returns-clause-places : goal.returns-clause-places
returns-clause-places c = λ place. own_stays place

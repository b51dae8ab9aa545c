use Rattle.ppm_cells.proofs.MemoryLemmas.{others}
use Rattle.ppm_cells.proofs.laws.stores_change_one_cell.Goals as goal

-- cells that differ have other addresses
pub returns-clause-others : goal.returns-clause-others
returns-clause-others c = λ s. others s

use Rattle.ppm_cells.proofs.CellLemmas.{differ, all}
use Rattle.ppm_cells.proofs.laws.cells_are_the_words.Goals as goal

-- each cell is found from its address
pub returns-clause-differ : goal.returns-clause-differ
returns-clause-differ c = λ s. differ s

-- and the cell that is found is there
pub returns-clause-all : goal.returns-clause-all
returns-clause-all c = λ s. all s

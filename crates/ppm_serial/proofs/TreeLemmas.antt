-- A row of statements, as the list that it is.
use Rattle.std.proofs.Common.{◌≡◌, refl, ap}
use Rattle.ppm_tree.specs.declared.tree.Stmt.{Row_of-Stmt, end_of-Stmt, more_of-Stmt, items-the_row-Stmt}
use Rattle.ppm_tree.specs.Tree.{statement_of, row_block, block_of, Then}

pub row_is : {n : _} (row : Row_of-Stmt n) → row_block row ≡ block_of (items-the_row-Stmt n row)
row_is end_of-Stmt = refl
row_is (more_of-Stmt s rest) = ap (Then (statement_of s)) (row_is rest)

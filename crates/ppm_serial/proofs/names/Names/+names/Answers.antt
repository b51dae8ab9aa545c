-- Blocks in statements are lists.
use Rattle.std.proofs.Common.{rules}
use Rattle.ppm_tree.specs.declared.tree.Stmt.TheViews.{the_lemmas}
use Rattle.ppm_serial.proofs.TreeLemmas.{row_is}
use Rattle.ppm_serial.proofs.names.Names.+names.Goals as goal

pub statement-returns-in-While : goal.statement-returns-in-While
statement-returns-in-While t c = search (rules, the_lemmas, row_is)

pub statement-returns-in_ok-block-in-If : goal.statement-returns-in_ok-block-in-If
statement-returns-in_ok-block-in-If t c = search (rules, the_lemmas, row_is)

pub statement-returns-in_ok-region-in-Split-2 : goal.statement-returns-in_ok-region-in-Split-2
statement-returns-in_ok-region-in-Split-2 t c = search (rules, the_lemmas, row_is)

pub statement-returns-in_ok-region-in-Each : goal.statement-returns-in_ok-region-in-Each
statement-returns-in_ok-region-in-Each t c = search (rules, the_lemmas, row_is)

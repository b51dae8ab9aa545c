-- A binary operation by slots.
use Rattle.std.proofs.Common.{rules}
use Rattle.ppm_tree.specs.declared.tree.Expr.TheViews.{the_lemmas}
use Rattle.ppm_serial.specs.declared.code.Value.TheViews.{the_lemmas as value_lemmas}
use Rattle.ppm_serial.proofs.LayLemmas.{worth_binary}
use Rattle.ppm_serial.proofs.lay.+value.Goals as goal

pub returns-in_ok-both-in-Binary : goal.returns-in_ok-both-in-Binary
returns-in_ok-both-in-Binary t c = search (rules, the_lemmas, value_lemmas, worth_binary)

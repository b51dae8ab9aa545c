use Rattle.ppm_printer.proofs.Theorem.{has_its_tree}
use Rattle.ppm_printer.proofs.laws.printed_texts_have_their_tree.Goals as goal

pub returns : goal.returns
returns c = record { law = has_its_tree }

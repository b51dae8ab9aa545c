use Rattle.ppm_printer.proofs.Theorem.{tell_programs}
use Rattle.ppm_printer.proofs.laws.canonical_texts_tell_programs.Goals as goal

pub returns : goal.returns
returns c = record { law = tell_programs }

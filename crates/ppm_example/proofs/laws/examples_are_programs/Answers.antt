use Rattle.ppm_example.proofs.ProgramLemmas.{has_program}
use Rattle.ppm_example.proofs.laws.examples_are_programs.Goals as goal

pub returns : goal.returns
returns c = record { law = has_program }

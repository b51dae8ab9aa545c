use Rattle.ppm_strands.proofs.StepLemmas.{steps_end}
use Rattle.ppm_strands.proofs.StrandLemmas.{code_is_local}
use Rattle.ppm_code.specs.Locations.{code_locations}
use Rattle.ppm_code.specs.Strands.{table_of}
use Rattle.ppm_code.specs.Inputs.{words_in}
use Rattle.ppm_depth.specs.Run.{strands_of}
use Rattle.std.specs.Prelude.{length}
use Rattle.ppm_depth.proofs.laws.orders_come_to_one_end.Goals as goal

-- the code is local and the tree calm
pub returns : goal.returns
returns c = λ code input k o words sound steps.
    steps_end (strands_of code input) (code_is_local code_locations (table_of code (length (words_in input)))) steps sound.calm

use Rattle.ppm_commands.proofs.PlaceLemmas.{instructions_have_their_lines}
use Rattle.ppm_commands.proofs.laws.instructions_have_their_lines.Goals as goal

-- by the lines of the arrays and those of the listing
pub returns : goal.returns
returns c = record { law = instructions_have_their_lines }

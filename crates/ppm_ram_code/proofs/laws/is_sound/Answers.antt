use Rattle.ppm_ram_code.proofs.Theorem.{sound}
use Rattle.ppm_ram_code.proofs.laws.is_sound.Goals as goal

pub returns : goal.returns
returns c = record { law = sound }

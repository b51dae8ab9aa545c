use Rattle.ppm_ram_code.proofs.Theorem.{ends_as_ram}
use Rattle.ppm_ram_code.proofs.laws.ends_as_the_ram.Goals as goal

pub returns : goal.returns
returns c = record { law = ends_as_ram }

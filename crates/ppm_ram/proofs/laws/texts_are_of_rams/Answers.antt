use Rattle.ppm_ram.proofs.TextLemmas.{texts}
use Rattle.ppm_ram.proofs.laws.texts_are_of_rams.Goals as goal

pub returns : goal.returns
returns c = texts

use Rattle.ppm_naming.proofs.AddressLemmas.{addresses_name}
use Rattle.ppm_naming.proofs.laws.addresses_name_cells.Goals as goal

pub returns : goal.returns
returns c = record { law = λ s. addresses_name s (c.cells_are_the_words.ensures.within s) (c.cells_are_the_words.ensures.differ s) }

use Rattle.ppm_cells.proofs.RestartLemmas.{restarts_exact}
use Rattle.ppm_cells.proofs.EntryLemmas.{entries_exact}
use Rattle.ppm_cells.proofs.HolderLemmas.{holders_exact}
use Rattle.ppm_cells.proofs.LinkLemmas.{links_exact}
use Rattle.ppm_cells.proofs.FinishLemmas.{finishes_exact}
use Rattle.ppm_cells.proofs.RegionLemmas.{regions_exact}
use Rattle.ppm_cells.proofs.laws.packings_are_exact.Goals as goal

pub returns-clause-restart : goal.returns-clause-restart
returns-clause-restart c = λ word value. restarts_exact word value

pub returns-clause-entry : goal.returns-clause-entry
returns-clause-entry c = λ word value. entries_exact word value

pub returns-clause-holder : goal.returns-clause-holder
returns-clause-holder c = λ word value. holders_exact word value

pub returns-clause-link : goal.returns-clause-link
returns-clause-link c = λ word value. links_exact word value

pub returns-clause-finish : goal.returns-clause-finish
returns-clause-finish c = λ word value. finishes_exact word value

pub returns-clause-region : goal.returns-clause-region
returns-clause-region c = λ word value. regions_exact word value

use Rattle.ppm_cells.specs.Restart.{restart_word, IsRestart, restart_of}
use Rattle.ppm_cells.proofs.RestartLemmas.{restarts_exact}
use Rattle.ppm_cells.specs.Entry.{entry_word, IsEntry, entry_of}
use Rattle.ppm_cells.proofs.EntryLemmas.{entries_exact}
use Rattle.ppm_cells.specs.Holder.{holder_word, IsHolder, holder_of}
use Rattle.ppm_cells.proofs.HolderLemmas.{holders_exact}
use Rattle.ppm_cells.specs.Link.{link_word, IsLink, link_of}
use Rattle.ppm_cells.proofs.LinkLemmas.{links_exact}
use Rattle.ppm_cells.specs.Finish.{finish_word, IsFinish, finish_of}
use Rattle.ppm_cells.proofs.FinishLemmas.{finishes_exact}
use Rattle.ppm_cells.specs.Region.{region_word, IsRegion, region_of}
use Rattle.ppm_cells.proofs.RegionLemmas.{regions_exact}
use Rattle.ppm_cells.proofs.MemoryLemmas.{read_back, seen}
use Rattle.ppm_cells.proofs.laws.stored_values_are_seen.Goals as goal

pub returns-clause-restart : goal.returns-clause-restart
returns-clause-restart c = λ s. seen s restart_word IsRestart restart_of restarts_exact (read_back s)

pub returns-clause-entry : goal.returns-clause-entry
returns-clause-entry c = λ s. seen s entry_word IsEntry entry_of entries_exact (read_back s)

pub returns-clause-holder : goal.returns-clause-holder
returns-clause-holder c = λ s. seen s holder_word IsHolder holder_of holders_exact (read_back s)

pub returns-clause-link : goal.returns-clause-link
returns-clause-link c = λ s. seen s link_word IsLink link_of links_exact (read_back s)

pub returns-clause-finish : goal.returns-clause-finish
returns-clause-finish c = λ s. seen s finish_word IsFinish finish_of finishes_exact (read_back s)

pub returns-clause-region : goal.returns-clause-region
returns-clause-region c = λ s. seen s region_word IsRegion region_of regions_exact (read_back s)

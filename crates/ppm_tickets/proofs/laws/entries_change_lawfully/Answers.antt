use Rattle.ppm_tickets.proofs.EntryLemmas.{entries_change_lawfully as holds}
use Rattle.ppm_tickets.proofs.laws.entries_change_lawfully.Goals as goal

pub returns : goal.returns
returns c = record { law = holds }

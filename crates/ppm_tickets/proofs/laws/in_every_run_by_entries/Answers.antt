use Rattle.ppm_tickets.proofs.Theorem.{in_every_run_by_entries as holds}
use Rattle.ppm_tickets.proofs.laws.in_every_run_by_entries.Goals as goal

pub returns : goal.returns
returns c = record { law = holds }

use Rattle.ppm_tickets.proofs.Theorem.{in_every_run as holds}
use Rattle.ppm_tickets.proofs.laws.in_every_run.Goals as goal

pub returns : goal.returns
returns c = record { law = holds }

use Rattle.ppm_tickets.proofs.Theorem.{lawful_in_every_run, one_more_turn}
use Rattle.ppm_tickets.proofs.laws.turns_follow.Goals as goal

pub returns : goal.returns
returns c = record { lawful = lawful_in_every_run; more = one_more_turn }

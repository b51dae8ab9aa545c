use Rattle.ppm_tickets.proofs.RenewalLemmas.{resumes, goes_on, lawful_in_parts}
use Rattle.ppm_tickets.proofs.laws.resumes.Goals as goal

pub returns : goal.returns
returns c = record { back = resumes; on = goes_on; parts = lawful_in_parts }

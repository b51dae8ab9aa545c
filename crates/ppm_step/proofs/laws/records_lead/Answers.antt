use Rattle.ppm_step.proofs.RecordLemmas.{record_leads}
use Rattle.ppm_step.proofs.laws.records_lead.Goals as goal

pub returns : goal.returns
returns c = record_leads

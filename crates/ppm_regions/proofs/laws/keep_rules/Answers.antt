use Rattle.ppm_regions.proofs.Rules.{rules}
use Rattle.ppm_regions.proofs.laws.keep_rules.Goals as goal

pub returns : goal.returns
returns c = record { law = rules }

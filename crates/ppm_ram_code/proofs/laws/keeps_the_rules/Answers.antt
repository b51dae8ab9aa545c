use Rattle.ppm_ram_code.proofs.RuleLemmas.{rules_kept}
use Rattle.ppm_ram_code.proofs.laws.keeps_the_rules.Goals as goal

pub returns : goal.returns
returns c = record { law = rules_kept }

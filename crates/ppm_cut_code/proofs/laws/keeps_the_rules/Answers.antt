use Rattle.ppm_cut_code.proofs.FitsLemmas.{names_have_slots}
use Rattle.ppm_cut_code.proofs.KeepLemmas.{rules_kept}
use Rattle.ppm_cut_code.proofs.laws.keeps_the_rules.Goals as goal

pub returns : goal.returns
returns c = record { law = rules_kept names_have_slots }

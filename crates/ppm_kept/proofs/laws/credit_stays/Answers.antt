use Rattle.ppm_kept.proofs.CreditLemmas.{handed_owes}
use Rattle.ppm_kept.proofs.PayingLemmas.{credit_stays, credit_stays_left}
use Rattle.ppm_kept.proofs.laws.credit_stays.Goals as goal

pub returns : goal.returns
returns c = record { law = credit_stays; left = credit_stays_left; handed = handed_owes }

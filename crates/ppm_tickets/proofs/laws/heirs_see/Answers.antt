use Rattle.ppm_tickets.proofs.HeirRows.{heirs_see}
use Rattle.ppm_tickets.proofs.TakingRows.{heirs_take, one_inherits, one_takes}
use Rattle.ppm_tickets.proofs.laws.heirs_see.Goals as goal

pub returns : goal.returns
returns c = record { law = heirs_see; takes = heirs_take; one = one_takes; place = one_inherits }

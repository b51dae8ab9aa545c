use Rattle.ppm_tickets.proofs.FollowedLemmas.{heirs_follow, none_comes_back}
use Rattle.ppm_tickets.proofs.laws.heirs_follow.Goals as goal

pub returns : goal.returns
returns c = record { law = heirs_follow; stays = none_comes_back }

use Rattle.ppm_code.proofs.FollowLemmas as follow
use Rattle.ppm_code.proofs.laws.acts_follow.Goals as goal

-- instruction by instruction
pub returns : goal.returns
returns c = follow.acts_follow

use Rattle.ppm_following.proofs.DoesLemmas.{list_and_rounds}
use Rattle.ppm_following.proofs.following.follow_on.Goals as goal

-- the list, and after it the rounds
pub returns-clause-does : goal.returns-clause-does
returns-clause-does c = list_and_rounds c.args.items.now c.args.rounds c.list.ensures.does c.go_on.ensures.does

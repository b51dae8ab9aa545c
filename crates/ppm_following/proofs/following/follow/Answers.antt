use Rattle.std.proofs.Common.{subst, sym}
use Rattle.ppm_core.specs.Machine.{seen}
use Rattle.ppm_following.specs.Following.{IsReady}
use Rattle.ppm_following.proofs.DoesLemmas.{whole_run}
use Rattle.ppm_following.proofs.ReadyLemmas.{ready_first}
use Rattle.ppm_following.proofs.following.follow.Goals as goal

-- no load is made yet, and the turns are few
pub follow_on-requires-clause-ready : goal.follow_on-requires-clause-ready
follow_on-requires-clause-ready c =
    subst (IsReady (seen c.args.machine.now)) (sym c.first-way.ensures)
    (ready_first (seen c.args.machine.now) c.args.turns c.requires.few c.requires.turns)

-- the list, and after it the rounds
pub returns : goal.returns
returns c =
    whole_run c.items.result.now c.args.schedule.now.items c.args.turns c.items.ensures.items c.first-way.ensures c.follow_on.ensures.does

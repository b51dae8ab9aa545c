use Rattle.ppm_following.proofs.ReadyLemmas.{ready_behind}
use Rattle.ppm_following.proofs.following.make.Goals as goal

-- one turn more, one act fewer, and at most one load more
pub returns-clause-ready : goal.returns-clause-ready
returns-clause-ready c =
    ready_behind c.args.act c.turn_of-turn.result c.requires.ready c.requires.left c.turn_of-turn.ensures.loads c.turn_of-turn.ensures.left c.turn.ensures.machine

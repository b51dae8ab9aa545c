use Rattle.std.proofs.Common.{◌<◌, ◌+◌, arith}
use Rattle.ppm_core.specs.Machine.{seen}
use Rattle.ppm_trace.proofs.OneLemmas.{hears_one, listens_on}
use Rattle.ppm_trace.proofs.hearing.hear_and_make.Goals as goal

-- there were few turns
pub hear-requires-clause-turns : goal.hear-requires-clause-turns
hear-requires-clause-turns g c = omega (arith, c.requires.is.ready.turns)

-- the listener can hear
pub hear-requires-clause-listens : goal.hear-requires-clause-listens
hear-requires-clause-listens g c = c.requires.is.can

-- it is heard as it is made
pub returns-clause-hears : goal.returns-clause-hears
returns-clause-hears g c =
    hears_one (seen c.args.machine.now) c.args.way.now c.args.act c.turn_of-turn.result c.requires.left c.requires.lives
    c.turn_of-turn.ensures.turn (g.L.Listener.heard c.args.listener.now) (seen c.turn.new.self) c.turn_of-turn.new.way c.args.notes.now
    c.hear.new.notes c.turn_of-turn.ensures.loads c.turn_of-turn.ensures.left c.turn.ensures.machine c.in_ok-hear.ensures.heard

-- one turn more
pub returns-clause-is : goal.returns-clause-is
returns-clause-is g c =
    listens_on (g.L.Listener.listens c.args.listener.now) c.hear.new.notes c.args.act c.turn_of-turn.result c.requires.is c.requires.left
    c.turn_of-turn.ensures.loads c.turn_of-turn.ensures.left c.turn.ensures.machine c.in_ok-hear.ensures.listens

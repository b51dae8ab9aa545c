use Rattle.std.proofs.Common.{◌≤◌, ◌<◌, ◌+◌, ◌*◌, arith}
use Rattle.ppm_trace.proofs.teller.TellerListener.hear.Goals as goal

-- there is room for what it counts
pub tell-requires-clause-few : goal.tell-requires-clause-few
tell-requires-clause-few c = omega (arith, c.requires.listens, c.requires.turns)

-- a turn is counted, and two marks at most
pub returns-clause-listens : goal.returns-clause-listens
returns-clause-listens c = omega (arith, c.requires.listens, c.in_ok-tell.ensures.bound)

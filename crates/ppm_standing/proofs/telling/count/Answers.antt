-- Nothing is left open.
use Rattle.std.proofs.Common.{map, reverse, rules}
use Rattle.ppm_standing.specs.Shown.{rest_of}
use Rattle.ppm_standing.proofs.CountLemmas.{counted_all}
use Rattle.ppm_standing.proofs.telling.count.Goals as goal

pub returns : goal.returns
returns c =
    counted_all (map rest_of (reverse c.args.around.items)) c.loop-rest.left.items c.loop-rest.calls c.loop-rest.line c.last_line.result c.loop-rest.invariant
    (let h = c.in_default.ensures.cases.0 in search (rules, h)) c.last_line.ensures

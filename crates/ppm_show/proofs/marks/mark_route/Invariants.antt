use Rattle.ppm_show.specs.Routes.{leads_to}
use Rattle.ppm_show.proofs.PathLemmas.{IsMarkedTo}
use Rattle.ppm_show.proofs.marks.mark_route.Given as goal

-- the route is marked up to here
abbrev pub invariant-loop-step : goal.invariant-loop-step
invariant-loop-step l = IsMarkedTo (leads_to l.scene) l.fn.from l.fn.marks.items l.marks.items l.next l.step

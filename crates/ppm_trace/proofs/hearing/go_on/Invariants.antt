use Rattle.std.proofs.Common.{◌≡◌}
use Rattle.ppm_choice.specs.Schedules.{rounds}
use Rattle.ppm_core.specs.Machine.{seen}
use Rattle.ppm_trace.specs.Hearing.{hearing, IsHearing, LeadsTo}
use Rattle.ppm_trace.proofs.hearing.go_on.Given as goal

-- what is left, after what was heard, is all
abbrev pub invariant-loop-left : goal.invariant-loop-left
invariant-loop-left g l =
    LeadsTo (g.L.Listener.heard l.listener) (rounds (seen l.initial.machine).shape.processors l.count) (rounds (seen l.initial.machine).shape.processors l.left)
    (hearing (seen l.initial.machine) l.initial.way l.initial.notes) (hearing (seen l.machine) l.way l.notes)
    × IsHearing (g.L.Listener.listens l.listener) (hearing (seen l.machine) l.way l.notes)
    × ((seen l.machine).shape ≡ (seen l.initial.machine).shape)

abbrev pub decreases-loop-left : goal.decreases-loop-left
decreases-loop-left g l = l.left

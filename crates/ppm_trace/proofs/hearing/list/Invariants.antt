use Rattle.std.proofs.Common.{◌≡◌, length}
use Rattle.std.specs.List.{All}
use Rattle.ppm_choice.specs.Schedules.{listed}
use Rattle.ppm_core.specs.Machine.{seen}
use Rattle.ppm_plan.specs.Schedules.{IsItemAmong}
use Rattle.ppm_trace.specs.Hearing.{hearing, IsHearing, LeadsTo}
use Rattle.ppm_trace.proofs.hearing.list.Given as goal

-- what is left, after what was heard, is all
abbrev pub invariant-loop-left : goal.invariant-loop-left
invariant-loop-left g l =
    LeadsTo (g.L.Listener.heard l.listener) (listed l.items) (listed l.left)
    (hearing (seen l.initial.machine) l.initial.way l.initial.notes) (hearing (seen l.machine) l.way l.notes)
    × IsHearing (g.L.Listener.listens l.listener) (hearing (seen l.machine) l.way l.notes)
    × ((seen l.machine).shape ≡ (seen l.initial.machine).shape)
    × All (IsItemAmong (seen l.initial.machine).shape.processors) l.left

abbrev pub decreases-loop-left : goal.decreases-loop-left
decreases-loop-left g l = length l.left

use Rattle.std.proofs.Common.{◌≡◌, replicate}
use Rattle.ppm_choice.specs.Course.{Listed}
use Rattle.ppm_core.specs.Machine.{seen}
use Rattle.ppm_trace.specs.Hearing.{hearing, IsHearing, LeadsTo}
use Rattle.ppm_trace.proofs.hearing.repeat.Given as goal

-- what is left, after what was heard, is all
abbrev pub invariant-loop-left : goal.invariant-loop-left
invariant-loop-left g l =
    LeadsTo (g.L.Listener.heard l.listener) (replicate l.item.times (Listed l.item.act)) (replicate l.left (Listed l.item.act))
    (hearing (seen l.initial.machine) l.initial.way l.initial.notes) (hearing (seen l.machine) l.way l.notes)
    × IsHearing (g.L.Listener.listens l.listener) (hearing (seen l.machine) l.way l.notes)
    × ((seen l.machine).shape ≡ (seen l.initial.machine).shape)

abbrev pub decreases-loop-left : goal.decreases-loop-left
decreases-loop-left g l = l.left

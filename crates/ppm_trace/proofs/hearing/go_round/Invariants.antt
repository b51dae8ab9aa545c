use Rattle.std.proofs.Common.{◌≡◌, ◌-◌, map}
use Rattle.std.specs.List.{range_with_len}
use Rattle.ppm_choice.specs.Course.{InRound}
use Rattle.ppm_choice.specs.Schedules.{round}
use Rattle.ppm_core.specs.Machine.{seen}
use Rattle.ppm_trace.specs.Hearing.{hearing, IsHearing, LeadsTo}
use Rattle.ppm_trace.proofs.hearing.go_round.Given as goal

-- what is left, after what was heard, is all
abbrev pub invariant-loop-processor : goal.invariant-loop-processor
invariant-loop-processor g l =
    LeadsTo (g.L.Listener.heard l.listener) (round (seen l.initial.machine).shape.processors)
    (map InRound (range_with_len l.processor (l.processors - l.processor)))
    (hearing (seen l.initial.machine) l.initial.way l.initial.notes) (hearing (seen l.machine) l.way l.notes)
    × IsHearing (g.L.Listener.listens l.listener) (hearing (seen l.machine) l.way l.notes)
    × ((seen l.machine).shape ≡ (seen l.initial.machine).shape)
    × (l.processors ≡ (seen l.initial.machine).shape.processors)

abbrev pub decreases-loop-processor : goal.decreases-loop-processor
decreases-loop-processor g l = l.processors - l.processor
